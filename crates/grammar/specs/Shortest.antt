-- "the length of the shortest line that name derives, from 0, with 65,535 for that much or more and for a name that derives no line"
use Rattle.std.specs.Prelude.{ℕ, ◌+◌, ◌≤◌, ◌<◌, ◌≡◌, length}
use Rattle.grammar.specs.Grammar.{Grammar}
use Rattle.grammar.specs.Useful.{Productive}

-- the number for that much or more, and for none
abbrev pub length_cap : ℕ
length_cap = 65535

module _ (g : Grammar) where
  -- x derives a string of n terminals
  abbrev pub DerivesLength : ℕ → ℕ → Type 0
  DerivesLength x n = (line : Productive g x) × (length line.made ≡ n)

  -- n is that length of x: below the cap a string of n terminals is derived, and none that is derived is shorter
  pub record ShortestLength (x n : ℕ) : Type 0 where
    pub most : n ≤ length_cap
    pub some : n < length_cap → DerivesLength x n
    pub least : (line : Productive g x) → n ≤ length line.made

  -- e j is that length of symbol T + j, for each j below n; from T+N on nothing is derived, and it is the cap
  abbrev pub ShortestLengths : ℕ → (ℕ → ℕ) → Type 0
  ShortestLengths n e = (j : ℕ) → j < n → ShortestLength (g.terminals + j) (e j)
