-- The sizes of a table as the code carries them, read once.
use Rattle.std.specs.Prelude.{ℕ, ◌<◌, ◌^◌, ◌≡◌, List}
use Rattle.tables.specs.Layout.{states, terminals, productions, width, cells_at}
use Rattle.tables.specs.declared.Shape.{Shape}

-- z holds the sizes of the table t: its numbers, and the place of its first cell
pub record Shaped (t : List ℕ) (z : Shape) : Type 0 where
  pub states_are : z.states ≡ states t
  pub terminals_are : z.terminals ≡ terminals t
  pub productions_are : z.productions ≡ productions t
  pub width_is : z.width ≡ width t
  pub cells_at : z.cells ≡ cells_at (productions t) (states t)
  pub states_fit : z.states < 2 ^ 16
  pub productions_fit : z.productions < 2 ^ 16
  pub width_fits : z.width < 2 ^ 17
