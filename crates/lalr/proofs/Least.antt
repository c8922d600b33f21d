-- What `settle` and `least` give: a set that the step leaves alone, and only what the step brings.
use mathlib.Core.Path.{◌≡◌, refl, sym}
use mathlib.Core.Bool.{Bool, true, false}
use Prim.Native.Nat.{ℕ, zero, suc, ◌+◌, ◌^◌, ◌≤◌, ◌<◌}
use native.Mathlib.Omega.{arith}
use lib.Dec.{eqb}
use borrow.Author.Tests.{eqb-true, eqb-false}
use Rattle.lalr.specs.ComputedSets.{settle, least}

module _ (step : ℕ → ℕ) where
  settle_true : (n s : ℕ) → eqb (step s) s ≡ true → settle step (suc n) s ≡ s
  settle_true n s e = rw (e, settle)

  settle_false : (n s : ℕ) → eqb (step s) s ≡ false → settle step (suc n) s ≡ settle step n (step s)
  settle_false n s e = rw (e, settle)

  -- whatever the step keeps, settling keeps
  pub settle_keeps : (P : ℕ → Type 0) → ((s : ℕ) → P s → P (step s)) → (n s : ℕ) → P s → P (settle step n s)
  settle_keeps P k zero s p = p
  settle_keeps P k (suc n) s p = go (eqb (step s) s) refl (settle_keeps P k n (step s) (k s p))
    where
      go : (b : Bool) → eqb (step s) s ≡ b → P (settle step n (step s)) → P (settle step (suc n) s)
      go true e q = rw (settle_true n s e) p
      go false e q = rw (settle_false n s e) q

  -- a step that only grows, and stays below B: it settles in B turns
  module _ (B : ℕ) (grows : (s : ℕ) → s ≤ step s) (stays : (s : ℕ) → s < B → step s < B) where
    pub settle_still : (n s : ℕ) → s < B → B ≤ n + s → step (settle step n s) ≡ settle step n s
    settle_still zero s h f = absurd (omega arith)
    settle_still (suc n) s h f = go (eqb (step s) s) refl (λ q. settle_still n (step s) (stays s h) q)
      where
        go : (b : Bool) → eqb (step s) s ≡ b → (B ≤ n + step s → step (settle step n (step s)) ≡ settle step n (step s))
            → step (settle step (suc n) s) ≡ settle step (suc n) s
        go true e ih = rw (settle_true n s e) (eqb-true (step s) s e)
        go false e ih =
            let ne : s ≡ step s → ⊥ = λ p. eqb-false (step s) s e (sym p) in
            let g : s ≤ step s = grows s in
            rw (settle_false n s e) (ih (omega arith))

  -- of sets of numbers below k
  pub least_still : (k : ℕ) → ((s : ℕ) → s ≤ step s) → ((s : ℕ) → s < 2 ^ k → step s < 2 ^ k) → (s : ℕ) → s < 2 ^ k
      → step (least k step s) ≡ least k step s
  least_still k grows stays s h = settle_still (2 ^ k) grows stays (2 ^ k) s h (omega arith)
