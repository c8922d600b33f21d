-- An area that is zeroed place by place.
use mathlib.Core.Path.{◌≡◌, refl, sym, ap, ◌∙◌}
use mathlib.Core.List.{List, [], ◌∷◌, ◌++◌}
use Prim.Native.Nat.{ℕ, zero, suc, ◌+◌, ◌<◌, ◌≤◌}
use native.Mathlib.Omega.{arith}
use lib.ListN.{length, set, take, replicate, length-set}
use lib.Seq.{take_all, take-suc-set}
use native.Mathlib.Numerals.{add-one}

-- the first i places of an area are zero
pub record Cleared (st₀ st : List ℕ) (i : ℕ) : Type 0 where
  pub long : length st ≡ length st₀
  pub within : i ≤ length st₀
  pub zeros : take i st ≡ replicate i 0

pub cleared_none : (st : List ℕ) → Cleared st st 0
cleared_none st = record { long = refl; within = omega arith; zeros = refl }

replicate_more : (n : ℕ) → replicate n 0 ++ 0 ∷ [] ≡ replicate {A = ℕ} (suc n) 0
replicate_more zero = refl
replicate_more (suc n) = ap (λ (x : List ℕ). 0 ∷ x) (replicate_more n)

pub cleared_more : {st₀ st : List ℕ} {i : ℕ} → Cleared st₀ st i → i < length st → Cleared st₀ (set st i 0) (i + 1)
cleared_more {st₀} {st} {i} c h =
    record {
      long = length-set st i 0 ∙ c.long;
      within = omega (arith, c.long);
      zeros =
          rw add-one (take-suc-set st i 0 h ∙ rw c.zeros (replicate_more i));
    }

pub cleared_all : {st₀ st : List ℕ} {i : ℕ} → Cleared st₀ st i → length st ≤ i → st ≡ replicate (length st₀) 0
cleared_all {st₀} {st} {i} c h =
    let e : i ≡ length st₀ = omega (arith, c.long, c.within) in
    sym (take_all i st h) ∙ c.zeros ∙ ap (λ (n : ℕ). replicate n 0) e
