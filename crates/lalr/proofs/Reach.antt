-- The least set that has s and, with k, all of `next k`: one theorem for closures, gotos, lookaheads and FIRST.
use mathlib.Core.Path.{◌≡◌, refl, sym, ap, ◌∙◌, subst}
use mathlib.Core.Bool.{Bool, true, false}
use mathlib.Core.List.{List, Memᴰ}
use Prim.Native.Nat.{ℕ, zero, suc, ◌+◌, ◌^◌, ◌≤◌, ◌<◌}
use native.Mathlib.Omega.{arith}
use native.Mathlib.Nat.{le_refl, le_trans}
use native.Mathlib.Decide.{ℕ_discrete}
use Rattle.sets.specs.Bit.{bit}
use Rattle.lalr.specs.ComputedSets.{with_all, sweep, visit as visit_of, reach as reach_of}
use Rattle.lalr.proofs.Members.{All, all_grow, all_stay, has_of_all, all_members, all_keep}
use Rattle.lalr.proofs.Least.{settle_keeps, least_still}

module _ (next : ℕ → List ℕ) where
  abbrev visit : ℕ → ℕ → ℕ
  visit = visit_of next

  abbrev reach : ℕ → ℕ → ℕ
  reach = reach_of next

  visit_grows : (k s : ℕ) → s ≤ visit k s
  visit_grows k s = go (bit s k) refl
    where
      go : (b : Bool) → bit s k ≡ b → s ≤ visit k s
      go true e = rw (e, visit_of) (all_grow s (next k))
      go false e = rw (e, visit_of) (le_refl s)

  visit_taken : (s k : ℕ) → bit s k ≡ true → visit k s ≡ with_all s (next k)
  visit_taken s k e = rw (e, visit_of)

  sweep_grows : (n i s : ℕ) → s ≤ sweep visit n i s
  sweep_grows zero i s = le_refl s
  sweep_grows (suc n) i s = le_trans (visit_grows i s) (sweep_grows n (suc i) (visit i s))

  -- a set that a sweep leaves alone, each visit of it leaves alone
  sweep_still : (n i s : ℕ) → sweep visit n i s ≡ s → (k : ℕ) → i ≤ k → k < i + n → visit k s ≡ s
  sweep_still zero i s e k l h = absurd (omega arith)
  sweep_still (suc n) i s e k l h =
      let g : s ≤ visit i s = visit_grows i s in
      let g2 : visit i s ≤ sweep visit n (suc i) (visit i s) = sweep_grows n (suc i) (visit i s) in
      let e2 : sweep visit n (suc i) (visit i s) ≡ s = e in
      let q : s ≡ visit i s = omega arith in
      go q (λ r. sweep_still n (suc i) s (ap (λ (x : ℕ). sweep visit n (suc i) x) q ∙ e) k r (omega arith)) (ℕ_discrete k i)
    where
      go : s ≡ visit i s → (suc i ≤ k → visit k s ≡ s) → Dec (k ≡ i) → visit k s ≡ s
      go q ih (yes p) = subst (λ (x : ℕ). visit x s ≡ s) (sym p) (sym q)
      go q ih (no p) = ih (omega arith)

  visit_keeps : (P : ℕ → Type 0) → ((k : ℕ) → P k → All P (next k)) → (k s : ℕ) → ((j : ℕ) → bit s j ≡ true → P j) → (j : ℕ) → bit (visit k s) j ≡ true → P j
  visit_keeps P c k s h = go (bit s k) refl
    where
      go : (b : Bool) → bit s k ≡ b → (j : ℕ) → bit (visit k s) j ≡ true → P j
      go true e j f = all_members P s (c k (h k e)) h j (rw (e, visit_of) at f)
      go false e j f = h j (rw (e, visit_of) at f)

  sweep_keeps : (P : ℕ → Type 0) → ((k : ℕ) → P k → All P (next k)) → (n i s : ℕ) → ((j : ℕ) → bit s j ≡ true → P j) → (j : ℕ) → bit (sweep visit n i s) j ≡ true → P j
  sweep_keeps P c zero i s h = h
  sweep_keeps P c (suc n) i s h = sweep_keeps P c n (suc i) (visit i s) (visit_keeps P c i s h)

  -- only what follows: whatever holds of s and passes from k to `next k` holds of every member
  pub reach_only : (P : ℕ → Type 0) → ((k : ℕ) → P k → All P (next k)) → (n s : ℕ) → ((j : ℕ) → bit s j ≡ true → P j) → (j : ℕ) → bit (reach n s) j ≡ true → P j
  reach_only P c n s h = settle_keeps (sweep visit n 0) (λ (t : ℕ). (j : ℕ) → bit t j ≡ true → P j) (λ t p. sweep_keeps P c n 0 t p) (2 ^ n) s h

  visit_has : (k s j : ℕ) → bit s j ≡ true → bit (visit k s) j ≡ true
  visit_has k s j h = go (bit s k) refl
    where
      go : (b : Bool) → bit s k ≡ b → bit (visit k s) j ≡ true
      go true e = rw (e, visit_of) (all_keep s (next k) j h)
      go false e = rw (e, visit_of) h

  sweep_has : (n i s j : ℕ) → bit s j ≡ true → bit (sweep visit n i s) j ≡ true
  sweep_has zero i s j h = h
  sweep_has (suc n) i s j h = sweep_has n (suc i) (visit i s) j (visit_has i s j h)

  -- what was there stays
  pub reach_start : (n s j : ℕ) → bit s j ≡ true → bit (reach n s) j ≡ true
  reach_start n s j h = settle_keeps (sweep visit n 0) (λ (t : ℕ). bit t j ≡ true) (λ t p. sweep_has n 0 t j p) (2 ^ n) s h

  module _ (n : ℕ) (inside : (k : ℕ) → k < n → All (λ j. j < n) (next k)) where
    visit_stays : (k s : ℕ) → k < n → s < 2 ^ n → visit k s < 2 ^ n
    visit_stays k s l h = go (bit s k) refl
      where
        go : (b : Bool) → bit s k ≡ b → visit k s < 2 ^ n
        go true e = rw (e, visit_of) (all_stay n s (inside k l) h)
        go false e = rw (e, visit_of) h

    sweep_stays : (m i s : ℕ) → i + m ≤ n → s < 2 ^ n → sweep visit m i s < 2 ^ n
    sweep_stays zero i s l h = h
    sweep_stays (suc m) i s l h = sweep_stays m (suc i) (visit i s) (omega arith) (visit_stays i s (omega arith) h)

    pub reach_small : (s : ℕ) → s < 2 ^ n → reach n s < 2 ^ n
    reach_small s h = settle_keeps (sweep visit n 0) (λ (t : ℕ). t < 2 ^ n) (λ t p. sweep_stays n 0 t (omega arith) p) (2 ^ n) s h

    -- all that follows: with k it has `next k`
    pub reach_all : (s : ℕ) → s < 2 ^ n → (k : ℕ) → k < n → bit (reach n s) k ≡ true → {j : ℕ} → Memᴰ j (next k) → bit (reach n s) j ≡ true
    reach_all s h k l e m =
        let r : ℕ = reach n s in
        let still : sweep visit n 0 (reach n s) ≡ reach n s =
        least_still (sweep visit n 0) n (λ t. sweep_grows n 0 t) (λ t u. sweep_stays n 0 t (omega arith) u) s h in
        let v : visit k (reach n s) ≡ reach n s = sweep_still n 0 (reach n s) still k (omega arith) (omega arith) in
        has_of_all (reach n s) (next k) (sym (visit_taken (reach n s) k e) ∙ v) m
