-- The tests of a row, column by column, as the code makes them.
use Rattle.std.specs.Prelude.{ℕ, ◌≤◌, ◌≡◌, List, Bool, true, ◌&&◌, ◌||◌, length, ltb, leb, eqb}
use Rattle.tables.specs.Layout.{size_of}
use Rattle.tables.specs.Shape.{Shaped}
use Rattle.machine.specs.Checks.{sizes_ok}
use Rattle.tables.specs.declared.Shape.{Shape}

-- a reduction, below e
abbrev pub reduction : ℕ → ℕ → Bool
reduction e v = leb 1024 v && ltb v e

-- the end marker's column: 0, accept or a reduction
unfoldable pub end_test : ℕ → ℕ → Bool
end_test e v = eqb v 0 || (eqb v 4096 || reduction e v)

-- another terminal's column: a state below q, which 0 is too, or a reduction
unfoldable pub action_test : ℕ → ℕ → ℕ → Bool
action_test q e v = ltb v q || reduction e v

-- a table of allowed sizes that is as long as they say
pub record Whole (t : List ℕ) (z : Shape) : Type 0 where
  pub shaped : Shaped t z
  pub sizes : sizes_ok t ≡ true
  pub whole : size_of t ≤ length t
