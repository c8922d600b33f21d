-- What stands in the area after the stores of one step.
use mathlib.Core.Path.{ap, ◌∙◌}
use mathlib.Core.List.{List}
use mathlib.Core.Bool.{Bool, ◌&&◌, ◌||◌}
use Prim.Native.Nat.{ℕ, ◌+◌, ◌<◌}
use native.Mathlib.Omega.{arith}
use lib.Dec.{eqb}
use Rattle.transitions.specs.Places.{entering_at}
use Rattle.transitions.specs.Writes.{Stored, Preceded}
use Rattle.transitions.proofs.WriteLaws.{precedes_same}
use Rattle.transition_lists.specs.Stores.{Noted}

-- a transition noted
pub noted : (w : List ℕ) (q x v : ℕ) → v < 256 → {w₁ w₂ : List ℕ} → Stored w (entering_at + v) x w₁ → Preceded w₁ v q w₂ → Noted w q x v w₂
noted w q x v hv {w₁} A B = record {
  long = B.long ∙ A.long;
  here = B.low (entering_at + v) (omega arith) ∙ A.here;
  there = λ u hu n. B.low (entering_at + u) (omega arith) ∙ A.other (entering_at + u) (λ z. n (omega arith));
  before = λ u p hu hp. B.before u p hu hp ∙ ap (λ (z : Bool). z || (eqb v u && eqb q p)) (precedes_same w₁ u p hu hp w (λ i l h. A.other i (λ z. omega arith)));
  low = λ i h. B.low i (omega arith) ∙ A.other i (λ z. omega arith);
  high = λ i h. B.high i h ∙ A.other i (λ z. omega arith);
}
