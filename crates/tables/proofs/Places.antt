-- Where the places of a table lie: that a cell is within the rows.
use mathlib.Core.Path.{◌≡◌, refl, sym, ap, ◌∙◌}
use mathlib.Core.List.{List}
use Prim.Native.Nat.{ℕ, ◌+◌, ◌-◌, ◌*◌, ◌^◌, ◌<◌, ◌≤◌}
use native.Mathlib.Nat.{suc-mul, mul-le-mul_right}
use native.Mathlib.Omega.{arith}
use lib.ListN.{get_or, drop}
use lib.Seq.{get_or-drop}
use Rattle.tables.specs.Layout.{nonterminals, width, cell_of, size_of}
use Rattle.tables.specs.Shape.{Shaped}
use Rattle.tables.specs.declared.Shape.{Shape}
use Rattle.tables.proofs.Product.{below}

-- row q of n rows of w cells ends within them
pub row_within : (w q n : ℕ) → q < n → q * w + w ≤ n * w
row_within w q n h = rw (sym (suc-mul q w)) (mul-le-mul_right w h)

module _ {t : List ℕ} {z : Shape} (s : Shaped t z) where
  pub size_of_is : z.cells + z.states * z.width ≡ size_of t
  unfolding size_of
  size_of_is = rw (s.cells_at, s.states_are, s.width_is) refl

  pub size_fits : (z.states * z.width < 2 ^ 34) × (z.cells < 2 ^ 18)
  size_fits =
      (below 17 (omega (arith, s.states_fit)) (omega (arith, s.width_fits)), omega (arith, s.cells_at, s.productions_are, s.productions_fit, s.states_are, s.states_fit))

  -- the cell of state q and symbol x, in the rows
  pub cell_in : (q x : ℕ) → get_or (drop z.cells t) (q * z.width + x) 0 ≡ cell_of t q x
  unfolding cell_of
  cell_in q x =
      get_or-drop z.cells t (q * z.width + x) 0 ∙ rw (s.cells_at, s.width_is) (ap (λ (i : ℕ). get_or t i 0) (omega arith))

  -- the same, column before row
  pub cell_up : (q x : ℕ) → get_or (drop z.cells t) (x + q * z.width) 0 ≡ cell_of t q x
  cell_up q x = ap (λ (i : ℕ). get_or (drop z.cells t) i 0) (omega arith) ∙ cell_in q x

  pub terminals_le : z.terminals ≤ z.width
  unfolding width
  terminals_le = omega (arith, s.terminals_are, s.width_is)

  pub nonterminals_of_is : z.width - z.terminals ≡ nonterminals t
  unfolding width
  nonterminals_of_is = omega (arith, s.terminals_are, s.width_is)
