-- Items as numbers: closure and advance compute the sets of the theory.
use mathlib.Core.Path.{◌≡◌, refl, sym, ap, ◌∙◌}
use mathlib.Core.Bool.{Bool, true, false}
use mathlib.Core.Logic.{◌↔◌, ◌≢◌}
use mathlib.Core.List.Memᴰ
use mathlib.Core.List.{List, [], ◌∷◌, Memᴰ}
use Prim.Native.Nat.{ℕ, zero, suc, ◌+◌, ◌-◌, ◌^◌, ◌≤◌, ◌<◌}
use native.Mathlib.Omega.{arith}
use native.Mathlib.Decide.{ℕ_discrete, dec_lt}
use lib.Pow.{pow_pos, pow-lt}
use lib.ListN.{length, drop, length-drop}
use lib.Count.{count_trailing_zeros}
use lib.Dec.{eqb, ltb}
use borrow.Author.Tests.{eqb-true, eq-eqb, ltb-false, lt-ltb, le-ltb}
use Rattle.grammar.specs.Grammar.{Grammar}
use Rattle.lr.proofs.Automaton.{CoreClosure, given, opened, CoreAdvanced, advanced, Goes, goes, CoreStart, core_start}
use Rattle.sets.specs.Lists.{each}
use Rattle.sets.specs.Bit.{bit}
use Rattle.lalr.specs.ComputedSets.{when}
use mathlib.Core.Bool.{◌&&◌}
use Rattle.lalr.specs.ComputedStates.{first, total, rest_in, rest_at, starts_of, opens, closure, advance, goto, start, starts_with}
use Rattle.sets.proofs.BitLaws.{bit_zero}
use Rattle.lalr.proofs.Members.{All, none, all_stay, has_power, has_power_only}
use Rattle.lalr.proofs.Reach.{reach_only, reach_all, reach_start, reach_small}
use Rattle.sets.proofs.BitLaws.{bit_ext, lowest_in, lowest_lt}
use Rattle.lalr.proofs.Lists.{not-true, not_cons, all_of, all_in, set_of, each_in, each_from, From, from, when_in, when_from}

pub both_true : (a b : Bool) → ◌&&◌ a b ≡ true → (a ≡ true) × (b ≡ true)
both_true true b e = (refl, e)
both_true false b e = absurd (not-true e refl)

starts_with_is : (x : ℕ) (l : List ℕ) → starts_with x l ≡ true → (β : List ℕ) × (l ≡ x ∷ β)
starts_with_is x [] e = absurd (not-true e refl)
starts_with_is x (y ∷ β) e = (β, ap (λ (z : ℕ). z ∷ β) (eqb-true y x e))

bool_same : (a b : Bool) → (a ≡ true → b ≡ true) → (b ≡ true → a ≡ true) → a ≡ b
bool_same true b f h = sym (f refl)
bool_same false true f h = h refl
bool_same false false f h = refl

module _ (g : Grammar) where
  pub record Valid (r d : ℕ) : Type 0 where
    pub production : r ≤ g.productions
    pub dot : d ≤ length (g.right r)

  first_mono : (r r' : ℕ) → r < r' → first g r + suc (length (g.right r)) ≤ first g r'
  first_mono r zero h = absurd (omega arith)
  first_mono r (suc r') h = go (ℕ_discrete r r') (λ k. first_mono r r' k)
    where
      go : Dec (r ≡ r') → (r < r' → first g r + suc (length (g.right r)) ≤ first g r') → first g r + suc (length (g.right r)) ≤ first g r' + suc (length (g.right r'))
      go (yes e) ih = rw e (omega arith)
      go (no ne) ih = omega (arith, ih (omega arith))

  pub item_below : {r d : ℕ} → Valid r d → first g r + d < total g
  item_below {r} {d} v = omega (arith, first_mono r (suc g.productions) (omega (arith, v.production)), v.dot)

  pub item_inj : {r d r' d' : ℕ} → Valid r d → Valid r' d' → first g r + d ≡ first g r' + d' → (r ≡ r') × (d ≡ d')
  item_inj {r} {d} {r'} {d'} v v' e = go (ℕ_discrete r r') (dec_lt r r')
    where
      go : Dec (r ≡ r') → Dec (r < r') → (r ≡ r') × (d ≡ d')
      go (yes k) l = (k, omega (arith, ap (first g) k))
      go (no k) (yes l) = absurd (omega (arith, first_mono r r' l, v.dot))
      go (no k) (no l) = absurd (omega (arith, first_mono r' r (omega arith), v'.dot))

  pub data Decoded (n k : ℕ) : Type 0 where
    decoded : (r d : ℕ) → r < n → d ≤ length (g.right r) → k ≡ first g r + d → Decoded n k

  pub decode : (n k : ℕ) → k < first g n → Decoded n k
  decode zero k h = absurd (omega arith)
  decode (suc n) k h = go (dec_lt k (first g n)) (λ l. decode n k l)
    where
      up : Decoded n k → Decoded (suc n) k
      up (decoded r d h l e) = decoded r d (omega arith) l e

      go : Dec (k < first g n) → (k < first g n → Decoded n k) → Decoded (suc n) k
      go (yes l) ih = up (ih l)
      go (no l) ih = decoded n (k - first g n) (omega arith) (omega arith) (omega arith)

  rest_in_is : (n r d : ℕ) → r < n → d ≤ length (g.right r) → rest_in g n (first g r + d) ≡ drop d (g.right r)
  rest_in_is zero r d h l = absurd (omega arith)
  rest_in_is (suc n) r d h l = go (ℕ_discrete r n) (λ k. rest_in_is n r d k l)
    where
      go : Dec (r ≡ n) → (r < n → rest_in g n (first g r + d) ≡ drop d (g.right r)) → rest_in g (suc n) (first g r + d) ≡ drop d (g.right r)
      go (yes e) ih =
          let q : first g r + d - first g n ≡ d = omega (arith, ap (first g) e) in
          let t : ltb (first g r + d) (first g n) ≡ false = le-ltb (first g r + d) (first g n) (omega (arith, ap (first g) e)) in
          rw (t, rest_in, q, e)
      go (no ne) ih = rw (lt-ltb (first g r + d) (first g n) (omega (arith, first_mono r n (omega arith))), rest_in) (ih (omega arith))

  pub rest_at_is : {r d : ℕ} → Valid r d → rest_at g (first g r + d) ≡ drop d (g.right r)
  rest_at_is {r} {d} v = rest_in_is (suc g.productions) r d (omega (arith, v.production)) v.dot

  pub data Rest (n k x : ℕ) (β : List ℕ) : Type 0 where
    rest : (r d : ℕ) → r < n → d < length (g.right r) → k ≡ first g r + d → drop d (g.right r) ≡ x ∷ β → Rest n k x β

  rest_from : (n k : ℕ) {x : ℕ} {β : List ℕ} → rest_in g n k ≡ x ∷ β → Rest n k x β
  rest_from zero k e = absurd (not_cons e)
  rest_from (suc n) k {x} {β} e = go (ltb k (first g n)) refl (λ q. rest_from n k q)
    where
      up : Rest n k x β → Rest (suc n) k x β
      up (rest r d h l q z) = rest r d (omega arith) l q z

      go : (b : Bool) → ltb k (first g n) ≡ b → (rest_in g n k ≡ x ∷ β → Rest n k x β) → Rest (suc n) k x β
      go true q ih = up (ih (rw (q, rest_in) at e))
      go false q ih =
          let z : drop (k - first g n) (g.right n) ≡ x ∷ β = rw (q, rest_in) at e in
          rest n (k - first g n) (omega arith) (omega (arith, length-drop (k - first g n) (g.right n), ap length z)) (omega (arith, ltb-false k (first g n) q)) z

  pub rest_of : (k : ℕ) {x : ℕ} {β : List ℕ} → rest_at g k ≡ x ∷ β → Rest (suc g.productions) k x β
  rest_of k e = rest_from (suc g.productions) k e

  pub valid_production : {s : ℕ} → s < g.productions → Valid s 0
  valid_production h = record { production = omega arith; dot = omega arith }

  pub moved_valid : {r d x : ℕ} {β : List ℕ} → Valid r d → drop d (g.right r) ≡ x ∷ β → Valid r (suc d)
  moved_valid {r} {d} v e = record { production = v.production; dot = omega (arith, length-drop d (g.right r), ap length e) }

  pub record In (s : ℕ) (r d : ℕ) : Type 0 where
    pub valid : Valid r d
    pub there : bit s (first g r + d) ≡ true

  -- first items
  pub starts_from : (x j : ℕ) → Memᴰ j (starts_of g x) → (s : ℕ) × (s < g.productions) × (g.left s ≡ x) × (j ≡ first g s + 0)
  starts_from x j m = go (each_from g.productions (λ r. when (eqb (g.left r) x) (first g r ∷ [])) m)
    where
      go : From j g.productions (λ r. when (eqb (g.left r) x) (first g r ∷ [])) → (s : ℕ) × (s < g.productions) × (g.left s ≡ x) × (j ≡ first g s + 0)
      go (from r h m) = let t = when_from (eqb (g.left r) x) m in let q : j ≡ first g r = Memᴰ.eq_of_singleton t.1 in (r, h, eqb-true (g.left r) x t.0, omega arith)

  pub starts_in : (s x : ℕ) → s < g.productions → g.left s ≡ x → Memᴰ (first g s + 0) (starts_of g x)
  starts_in s x h e =
      let q : first g s + 0 ≡ first g s = omega arith in
      rw q (each_in g.productions (λ r. when (eqb (g.left r) x) (first g r ∷ [])) s h (when_in (eq-eqb (g.left s) x e) (Memᴰ.head refl)))

  opens_all : (P : ℕ → Type 0) (k : ℕ) → ((x : ℕ) (β : List ℕ) → rest_at g k ≡ x ∷ β → (j : ℕ) → Memᴰ j (starts_of g x) → P j) → All P (opens g k)
  opens_all P k h = go (rest_at g k) refl
    where
      go : (l : List ℕ) → rest_at g k ≡ l → All P (opens g k)
      go [] e = rw (e, opens) none
      go (x ∷ β) e = rw (e, opens) (all_of (starts_of g x) (h x β e))

  opens_mem : (k : ℕ) {x j : ℕ} {β : List ℕ} → rest_at g k ≡ x ∷ β → Memᴰ j (starts_of g x) → Memᴰ j (opens g k)
  opens_mem k e t = rw (e, opens) t

  abbrev ClosedAt : ℕ → ℕ → Type 0
  ClosedAt s k = (r d : ℕ) → Valid r d → k ≡ first g r + d → CoreClosure g (In s) r d

  step_closed : (s k x : ℕ) (β : List ℕ) → ClosedAt s k → rest_at g k ≡ x ∷ β → (j : ℕ) → Memᴰ j (starts_of g x) → ClosedAt s j
  step_closed s k x β c e j m = go (rest_of k e) (starts_from x j m)
    where
      go : Rest (suc g.productions) k x β → ((t : ℕ) × (t < g.productions) × (g.left t ≡ x) × (j ≡ first g t + 0)) → ClosedAt s j
      go (rest r d h l q z) t r' d' v p =
          let n = item_inj v (valid_production t.1) (sym p ∙ t.3) in
          rw (n.0, n.1) (opened {s = t.0} {β = β} (c r d (record { production = omega arith; dot = omega arith }) q) (rw t.2 z) t.1)

  start_below : (x : ℕ) {j : ℕ} → Memᴰ j (starts_of g x) → j < total g
  start_below x {j} m = let t = starts_from x j m in rw t.3 (item_below (valid_production t.1))

  inside : (k : ℕ) → k < total g → All (λ j. j < total g) (opens g k)
  inside k l = opens_all (λ j. j < total g) k (λ x β e j t. start_below x t)

  pub closure_valid : {s r d : ℕ} → CoreClosure g (In s) r d → Valid r d
  closure_valid (given h) = h.valid
  closure_valid (opened c e h) = valid_production h

  closure_there : (s : ℕ) → s < 2 ^ total g → {r d : ℕ} → CoreClosure g (In s) r d → bit (closure g s) (first g r + d) ≡ true
  unfolding closure
  closure_there s b {r} {d} (given h) = reach_start (opens g) (total g) s (first g r + d) h.there
  closure_there s b (opened {r} {d} {s = t} c e h) =
      reach_all (opens g) (total g) inside s b (first g r + d) (item_below (closure_valid c)) (closure_there s b c) (opens_mem (first g r + d) (rest_at_is (closure_valid c) ∙ e) (starts_in t (g.left t) h refl))

  pub closure_exact : (s : ℕ) → s < 2 ^ total g → (r d : ℕ) → In (closure g s) r d ↔ CoreClosure g (In s) r d
  unfolding closure
  closure_exact s b r d = (
    λ i. reach_only (opens g) (ClosedAt s) (λ k p. opens_all (ClosedAt s) k (λ x β e j m. step_closed s k x β p e j m)) (total g) s
        (λ j h r d v e. given (record { valid = v; there = rw (← e) h })) (first g r + d) i.there r d i.valid refl,
    λ c. record { valid = closure_valid c; there = closure_there s b c },
  )

  pub closure_small : (s : ℕ) → s < 2 ^ total g → closure g s < 2 ^ total g
  unfolding closure
  closure_small s b = reach_small (opens g) (total g) inside s b

  -- ADVANCE
  abbrev moved : ℕ → ℕ → ℕ → List ℕ
  moved s x k = when (◌&&◌ (bit s k) (starts_with x (rest_at g k))) (suc k ∷ [])

  pub data Steps (s x j : ℕ) : Type 0 where
    steps : {r d : ℕ} {β : List ℕ} → In s r d → drop d (g.right r) ≡ x ∷ β → j ≡ first g r + suc d → Steps s x j

  moved_from : (s x j : ℕ) → Memᴰ j (each (total g) (moved s x)) → Steps s x j
  moved_from s x j m = go (each_from (total g) (moved s x) m)
    where
      go₂ : (k : ℕ) {β : List ℕ} → bit s k ≡ true → j ≡ suc k → Rest (suc g.productions) k x β → Steps s x j
      go₂ k h e (rest r d l n q z) = steps {r = r} {d = d} (record { valid = record { production = omega arith; dot = omega arith }; there = rw (← q) h }) z (omega arith)

      go : From j (total g) (moved s x) → Steps s x j
      go (from k l m) =
          let t = when_from (◌&&◌ (bit s k) (starts_with x (rest_at g k))) m in
          let b = both_true (bit s k) (starts_with x (rest_at g k)) t.0 in
          let w = starts_with_is x (rest_at g k) b.1 in
          go₂ k b.0 (Memᴰ.eq_of_singleton t.1) (rest_of k w.1)

  moved_in : (s x : ℕ) {r d : ℕ} {β : List ℕ} → In s r d → drop d (g.right r) ≡ x ∷ β → Memᴰ (first g r + suc d) (each (total g) (moved s x))
  moved_in s x {r} {d} {β} i e =
      let q : first g r + suc d ≡ suc (first g r + d) = omega arith in
      let w : starts_with x (rest_at g (first g r + d)) ≡ true = rw (rest_at_is i.valid, e) (eq-eqb x x refl) in
      rw q (each_in (total g) (moved s x) (first g r + d) (item_below i.valid) (when_in {b = ◌&&◌ (bit s (first g r + d)) (starts_with x (rest_at g (first g r + d)))} (rw (i.there, w) refl) (Memᴰ.head refl)))

  pub advance_exact : (s x r d : ℕ) → In (advance g s x) r d ↔ CoreAdvanced g (In s) x r d
  unfolding advance
  advance_exact s x r d = (λ i. to i.valid (moved_from s x (first g r + d) (set_of (each (total g) (moved s x)) (first g r + d) i.there)), λ a. back a)
    where
      to : Valid r d → Steps s x (first g r + d) → CoreAdvanced g (In s) x r d
      to v (steps i e q) = let n = item_inj v (moved_valid i.valid e) q in rw (n.0, n.1) (advanced i e)

      back : {d : ℕ} → CoreAdvanced g (In s) x r d → In (advance g s x) r d
      back (advanced {d = d} i e) = record { valid = moved_valid i.valid e; there = all_in 0 (each (total g) (moved s x)) (first g r + suc d) (moved_in s x i e) }

  pub advance_small : (s x : ℕ) → advance g s x < 2 ^ total g
  unfolding advance
  advance_small s x = all_stay (total g) 0 (all_of (each (total g) (moved s x)) (λ j m. go (moved_from s x j m))) (pow_pos (total g))
    where
      go : {j : ℕ} → Steps s x j → j < total g
      go (steps i e q) = rw q (item_below (moved_valid i.valid e))

  pub closure_map : {k k' : ℕ → ℕ → Type 0} → ((r d : ℕ) → k r d → k' r d) → {r d : ℕ} → CoreClosure g k r d → CoreClosure g k' r d
  closure_map m (given h) = given (m _ _ h)
  closure_map m (opened c e h) = opened (closure_map m c) e h

  closure_kernel : {k : ℕ → ℕ → Type 0} {r d : ℕ} → CoreClosure g k r d → (r' : ℕ) × (d' : ℕ) × k r' d'
  closure_kernel (given h) = (_, _, h)
  closure_kernel (opened c e h) = closure_kernel c

  pub goto_exact : (s x r d : ℕ) → In (goto g s x) r d ↔ CoreClosure g (CoreAdvanced g (In s) x) r d
  unfolding goto
  goto_exact s x r d =
      let t = closure_exact (advance g s x) (advance_small s x) r d in
      (λ i. closure_map (λ r d i. (advance_exact s x r d).0 i) (t.0 i), λ c. t.1 (closure_map (λ r d a. (advance_exact s x r d).1 a) c))

  pub goto_small : (s x : ℕ) → goto g s x < 2 ^ total g
  unfolding goto
  goto_small s x = closure_small (advance g s x) (advance_small s x)

  added_valid : Valid g.productions 0
  added_valid = record { production = omega arith; dot = omega arith }

  first_below : first g g.productions < total g
  first_below = omega (arith, item_below added_valid)

  pub start_exact : (r d : ℕ) → In (start g) r d ↔ CoreClosure g (CoreStart g) r d
  unfolding start
  start_exact r d =
      let t = closure_exact (2 ^ first g g.productions) (pow-lt first_below) r d in
      (λ i. closure_map to (t.0 i), λ c. t.1 (closure_map back c))
    where
      to : (r d : ℕ) → In (2 ^ first g g.productions) r d → CoreStart g r d
      to r d i = let q = has_power_only (first g g.productions) (first g r + d) i.there in let n = item_inj i.valid added_valid (omega arith) in rw (n.0, n.1) core_start

      back : (r d : ℕ) → CoreStart g r d → In (2 ^ first g g.productions) r d
      back r d core_start = let q : first g g.productions + 0 ≡ first g g.productions = omega arith in record { valid = added_valid; there = rw q (has_power (first g g.productions)) }

  pub start_small : start g < 2 ^ total g
  unfolding start
  start_small = closure_small (2 ^ first g g.productions) (pow-lt first_below)

  -- there is a transition just where the set behind it is not 0
  pub goto_goes : (s x : ℕ) → goto g s x ≢ 0 → Goes g (In s) x
  goto_goes s x ne = let p : 0 < goto g s x = omega (arith, ne) in go (lowest_in (total g) (goto g s x) p (goto_small s x)) (decode (suc g.productions) (count_trailing_zeros (total g) (goto g s x)) (lowest_lt (total g) (goto g s x) p (goto_small s x)))
    where
      one : {r d : ℕ} → CoreAdvanced g (In s) x r d → Goes g (In s) x
      one (advanced i e) = goes i e

      go : {k : ℕ} → bit (goto g s x) k ≡ true → Decoded (suc g.productions) k → Goes g (In s) x
      go h (decoded r d hr hd e) =
          let i : In (goto g s x) r d = record { valid = record { production = omega arith; dot = hd }; there = rw (← e) h } in
          one (closure_kernel ((goto_exact s x r d).0 i)).2

  pub goes_goto : (s x : ℕ) → Goes g (In s) x → goto g s x ≢ 0
  goes_goto s x (goes {r} {d} i e) z =
      let t = (goto_exact s x r (suc d)).1 (given (advanced i e)) in
      not-true (rw z at t.there) (bit_zero (first g r + suc d))

  -- sets with the same items are the same
  pub same_sets : (s t : ℕ) → s < 2 ^ total g → t < 2 ^ total g → ((r d : ℕ) → In s r d ↔ In t r d) → s ≡ t
  same_sets s t hs ht e = bit_ext (total g) s t hs ht (λ k l. at k (decode (suc g.productions) k l))
    where
      at : (k : ℕ) → Decoded (suc g.productions) k → bit s k ≡ bit t k
      at k (decoded r d hr hd q) =
          let v : Valid r d = record { production = omega arith; dot = hd } in
          rw q (bool_same (bit s (first g r + d)) (bit t (first g r + d)) (λ h. ((e r d).0 (record { valid = v; there = h })).there) (λ h. ((e r d).1 (record { valid = v; there = h })).there))
