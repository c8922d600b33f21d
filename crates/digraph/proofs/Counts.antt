-- Counts of the nodes not visited. Assumes nothing.
use mathlib.Core.Path.{◌≡◌, refl, sym, ap, ◌∙◌}
use mathlib.Core.Bool.{Bool, true, false}
use mathlib.Core.Logic.{⊎_elim}
use Prim.Native.Nat.{ℕ, zero, suc, ◌≤◌, ◌<◌}
use native.Mathlib.Nat.{le_refl}
use native.Mathlib.Omega.{arith}
use lib.Dec.{eqb}
use borrow.Author.Tests.{eqb-true, eq-eqb, ne_eqb}
use Rattle.sets.specs.Bit.{count, one_if}
use Rattle.sets.proofs.CountLaws.{count_le}
use Rattle.sets.proofs.HasLaws.{eq_or}
use Rattle.digraph.specs.Walk.{unvisited}

pub unvisited_le : (num : ℕ → ℕ) (k : ℕ) → unvisited num k ≤ k
unfolding unvisited
unvisited_le num k = count_le (λ v. eqb (num v) 0) k

one_mono : (p q : Bool) → (p ≡ true → q ≡ true) → one_if p ≤ one_if q
one_mono true q h = rw (h refl) (le_refl 1)
one_mono false q h = omega arith

-- a visited node stays visited: then there are no more that are not
module _ (num num' : ℕ → ℕ) where
  at_mono : (v : ℕ) → (num' v ≡ 0 → num v ≡ 0) → one_if (eqb (num' v) 0) ≤ one_if (eqb (num v) 0)
  at_mono v h = one_mono (eqb (num' v) 0) (eqb (num v) 0) (λ e. eq-eqb (num v) 0 (h (eqb-true (num' v) 0 e)))

  pub unvisited_mono : (k : ℕ) → ((v : ℕ) → v < k → num' v ≡ 0 → num v ≡ 0) → unvisited num' k ≤ unvisited num k
  unfolding unvisited count
  unvisited_mono zero h = le_refl 0
  unvisited_mono (suc k) h = omega (arith, at_mono k (h k (le_refl (suc k))), unvisited_mono k (λ v l. h v (omega arith)))

  -- and one less where x is visited now
  pub unvisited_less : (k x : ℕ) → ((v : ℕ) → v < k → num' v ≡ 0 → num v ≡ 0) → x < k → num x ≡ 0 → (num' x ≡ 0 → ⊥) → unvisited num' k < unvisited num k
  unfolding unvisited count
  unvisited_less zero x h l a b = absurd (omega arith)
  unvisited_less (suc k) x h l a b =
      ⊎_elim
      (λ q. let one : one_if (eqb (num k) 0) ≡ 1 = ap one_if (eq-eqb (num k) 0 (ap num (sym q) ∙ a)) in
      let none : one_if (eqb (num' k) 0) ≡ 0 = ap one_if (ne_eqb (num' k) 0 (λ z. b (ap num' q ∙ z))) in
      omega (arith, unvisited_mono k (λ v l. h v (omega arith))))
      (λ q. omega (arith, at_mono k (h k (le_refl (suc k))), unvisited_less k x (λ v l. h v (omega arith)) (omega arith) a b))
      (eq_or x k)
