-- What the checks say of the cells that an exploration meets.
use Prim.Native.Nat.{ℕ, ◌+◌, ◌*◌, ◌<◌}
use mathlib.Core.Path.{◌≡◌}
use mathlib.Core.Bool.{true}
use mathlib.Core.List.{List}
use native.Mathlib.Omega.{arith}
use lib.ListN.{length, get_or}
use lib.Dec.{ltb}
use borrow.Author.Tests.{ltb-true}
use Rattle.sets.proofs.TestLaws.{and_left, and_right, all_at}
use Rattle.tables.specs.Layout.{states, terminals, cell_of}
use Rattle.tables.specs.declared.Shape.{Shape}
use Rattle.tables.proofs.Places.{cell_in, cell_up}
use Rattle.machine.specs.Checks.{terminal_ok, input_ok}
use Rattle.machine.proofs.Checked.{below_width, cell_within}
pub use Rattle.machine.proofs.Checked.{accept_passed}
use Rattle.unlisted_steps.specs.Spot.{Readable}

-- the terminals of a line that was let pass
pub line_terminal : (t line : List ℕ) → input_ok t line ≡ true → (i : ℕ) → i < length line → (0 < get_or line i 0) × (get_or line i 0 < terminals t)
unfolding input_ok terminal_ok
line_terminal t line ok i h =
    let e = all_at (λ i. terminal_ok t (get_or line i 0)) (length line) ok i h in
    (ltb-true 0 (get_or line i 0) (and_left (ltb 0 (get_or line i 0)) _ e), ltb-true (get_or line i 0) (terminals t) (and_right (ltb 0 (get_or line i 0)) _ e))

module _ {t cs : List ℕ} {z : Shape} (rd : Readable t cs z) (q x : ℕ) (h : q < states t) (k : x < terminals t) where
  pub cell_fits : q * z.width + x < length cs
  cell_fits = rw rd.rows (cell_within rd.checked rd.shaped q x h (below_width rd.checked x k))

  pub cell_is : get_or cs (q * z.width + x) 0 ≡ cell_of t q x
  cell_is = rw rd.rows (cell_in rd.shaped q x)

  -- the same, column before row
  pub cell_up_fits : x + q * z.width < length cs
  cell_up_fits = let b = cell_fits in omega arith

  pub cell_up_is : get_or cs (x + q * z.width) 0 ≡ cell_of t q x
  cell_up_is = rw rd.rows (cell_up rd.shaped q x)
