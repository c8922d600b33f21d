-- The terminals of an expected set, listed from the lowest.
use Rattle.std.specs.Prelude.{ℕ, ◌≡◌, List, [], length}
use Rattle.sets.specs.Bit.{members}
use Rattle.sets.specs.Lists.{covered}

-- n is how many the set has, and an array of 64 places holds them, with zeros after them
pub record Lists (expected n : ℕ) (out : List ℕ) : Type 0 where
  pub many : n ≡ length (members 64 expected)
  pub listed : out ≡ covered 64 (members 64 expected) []
