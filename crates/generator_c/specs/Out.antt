-- An answer as five numbers: its numbers, and zeros after them.
use Rattle.std.specs.Prelude.{ℕ, ◌≡◌, List, []}
use Rattle.sets.specs.Lists.{covered}
use Rattle.lalr.specs.Answer.{numbers_of, Generated}

-- the five numbers and the three areas after the call are those of the definition
pub record WritesOut (g : Generated) (out t z w : List ℕ) : Type 0 where
  pub numbers : out ≡ covered 5 (numbers_of g.answer) []
  pub table : t ≡ g.table
  pub words : z ≡ g.words
  pub halves : w ≡ g.halves
