-- What the search for the first closed terminal finds. Only parts of the reader cite this.
use Rattle.std.specs.Prelude.{ℕ, ◌<◌, ◌≤◌, Bool, ◌||◌, List, length, get_or, take, ltb, leb}
use Rattle.sets.specs.Bit.{Has}
use Rattle.machine.specs.Restricted.{OpenLine}

-- the terminals before place i are open, and it is that of the first closed one or the end of the input
pub record OpenFront (closed : ℕ) (l : List ℕ) (i : ℕ) : Type 0 where
  pub within : i ≤ length l
  pub before : OpenLine closed (take i l)
  pub there : i < length l → Has closed (get_or l i 0)

-- the terminal at a place is below lo or at least hi
abbrev pub outside : ℕ → ℕ → List ℕ → ℕ → Bool
outside lo hi l i = ltb (get_or l i 0) lo || leb hi (get_or l i 0)
