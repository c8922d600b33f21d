-- The members of a set, ascending: a walk that takes the lowest and leaves the rest lists them all.
use mathlib.Core.Path.{◌≡◌, refl, sym, ap, ap₂, ◌∙◌}
use mathlib.Core.Bool.{Bool, true, false, not, ◌&&◌, cond}
use mathlib.Core.List.{List, [], ◌∷◌, ◌++◌}
use Prim.Native.Nat.{ℕ, zero, suc, ◌^◌, ◌≤◌, ◌<◌}
use native.Mathlib.Omega.{arith}
use native.Mathlib.Decide.{dec_lt}
use lib.ListN.{length, length-append}
use lib.Dec.{eqb}
use borrow.Author.Tests.{eq-eqb, ne_eqb}
use Rattle.sets.specs.Bit.{bit, Has, members, Lowest, Rest}
use Rattle.sets.proofs.BitLaws.{lowest_lt, bit_zero}
use Rattle.sets.proofs.TestLaws.{and_false, and_one}

abbrev only : Bool → ℕ → List ℕ
only b m = cond b (m ∷ []) []

only_length : (b : Bool) (m : ℕ) → length (only b m) ≤ 1
only_length true m = omega arith
only_length false m = omega arith

pub members_length : (n s : ℕ) → length (members n s) ≤ n
unfolding members
members_length zero s = omega arith
members_length (suc n) s =
    let e = length-append (members n s) (only (bit s n) n) in
    omega (arith, e, members_length n s, only_length (bit s n) n)

members_none : (n s : ℕ) → ((m : ℕ) → m < n → bit s m ≡ false) → members n s ≡ []
unfolding members
members_none zero s h = refl
members_none (suc n) s h = ap₂ (λ (l : List ℕ) (b : Bool). l ++ only b n) (members_none n s (λ m k. h m (omega arith))) (h n (omega arith))

pub members_empty : (n : ℕ) → members n 0 ≡ []
members_empty n = members_none n 0 (λ m h. bit_zero m)

module _ (s r low : ℕ) (has : Has s low) (least : (m : ℕ) → m < low → bit s m ≡ false) (items : (m : ℕ) → bit r m ≡ (bit s m && not (eqb low m))) where
  kept : (m : ℕ) → (low ≡ m → ⊥) → bit r m ≡ bit s m
  kept m ne = items m ∙ ap (λ (b : Bool). bit s m && not b) (ne_eqb low m ne) ∙ and_one (bit s m)

  taken : bit r low ≡ false
  taken = items low ∙ ap (λ (b : Bool). bit s low && not b) (eq-eqb low low refl) ∙ and_false (bit s low)

  members_step : (n : ℕ) → low < n → members n s ≡ low ∷ members n r
  unfolding members
  members_step zero h = absurd (omega arith)
  members_step (suc n) h = go (dec_lt low n) (λ k. members_step n k)
    where
      go : Dec (low < n) → (low < n → members n s ≡ low ∷ members n r) → members n s ++ only (bit s n) n ≡ low ∷ (members n r ++ only (bit r n) n)
      go (yes k) ih = ap₂ (λ (l : List ℕ) (b : Bool). l ++ only b n) (ih k) (sym (kept n (λ e. omega arith)))
      go (no k) ih =
          let en : n ≡ low = omega (arith, k) in
          let es : members low s ≡ [] = members_none low s least in
          let er : members low r ≡ [] = members_none low r (λ m b. kept m (λ e. omega arith) ∙ least m b) in
          rw (en, es, er, has, taken)

-- the lowest, and the rest
pub members_next : (w s : ℕ) {low r : ℕ} → 0 < s → s < 2 ^ w → Lowest w s low → Rest w s r → members w s ≡ low ∷ members w r
members_next w s {low} {r} p h l t =
    members_step s r low (l.found p) l.least (λ m. t.items m ∙ ap (λ (k : ℕ). bit s m && not (eqb k m)) (sym l.value)) w (rw l.value (lowest_lt w s p h))
