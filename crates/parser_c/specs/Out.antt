-- A report as seven numbers: its numbers, and zeros after them.
use Rattle.std.specs.Prelude.{ℕ, ◌≡◌, List, []}
use Rattle.sets.specs.Lists.{covered}
use Rattle.machine.specs.Report.{numbers_of, Reading}

abbrev pub padded : List ℕ → List ℕ
padded xs = covered 7 xs []

-- the seven numbers and the three areas after the call are those of the definition
pub record WritesOut (g : Reading) (out st li se : List ℕ) : Type 0 where
  pub report : out ≡ padded (numbers_of g.report)
  pub stack : st ≡ g.stack
  pub list : li ≡ g.list
  pub second : se ≡ g.second
