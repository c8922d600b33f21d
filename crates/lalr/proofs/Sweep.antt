-- A sweep of a step that only grows.
use mathlib.Core.Path.{◌≡◌, sym, ap, ◌∙◌, subst}
use Prim.Native.Nat.{ℕ, zero, suc, ◌+◌, ◌≤◌, ◌<◌}
use native.Mathlib.Omega.{arith}
use native.Mathlib.Nat.{le_refl, le_trans}
use native.Mathlib.Decide.{ℕ_discrete}
use Rattle.lalr.specs.ComputedSets.{sweep}

module _ (f : ℕ → ℕ → ℕ) where
  pub sweep_keeps : (P : ℕ → Type 0) (m : ℕ) → ((i s : ℕ) → i < m → P s → P (f i s)) → (n i s : ℕ) → i + n ≤ m → P s → P (sweep f n i s)
  sweep_keeps P m c zero i s l p = p
  sweep_keeps P m c (suc n) i s l p = sweep_keeps P m c n (suc i) (f i s) (omega arith) (c i s (omega arith) p)

  module _ (grows : (k s : ℕ) → s ≤ f k s) where
    pub sweep_grows : (n i s : ℕ) → s ≤ sweep f n i s
    sweep_grows zero i s = le_refl s
    sweep_grows (suc n) i s = le_trans (grows i s) (sweep_grows n (suc i) (f i s))

    pub sweep_still : (n i s : ℕ) → sweep f n i s ≡ s → (k : ℕ) → i ≤ k → k < i + n → f k s ≡ s
    sweep_still zero i s e k l h = absurd (omega arith)
    sweep_still (suc n) i s e k l h =
        let g : s ≤ f i s = grows i s in
        let g2 : f i s ≤ sweep f n (suc i) (f i s) = sweep_grows n (suc i) (f i s) in
        let e2 : sweep f n (suc i) (f i s) ≡ s = e in
        let q : s ≡ f i s = omega arith in
        go q (λ r. sweep_still n (suc i) s (ap (λ (x : ℕ). sweep f n (suc i) x) q ∙ e) k r (omega arith)) (ℕ_discrete k i)
      where
        go : s ≡ f i s → (suc i ≤ k → f k s ≡ s) → Dec (k ≡ i) → f k s ≡ s
        go q ih (yes p) = subst (λ (x : ℕ). f x s ≡ s) (sym p) (sym q)
        go q ih (no p) = ih (omega arith)
