-- What the phases of the maker hand on to each other. Only private functions cite this.
use Rattle.std.specs.Prelude.{ℕ, ◌+◌, ◌≤◌, ◌<◌, ◌≡◌, List, [], length, get_or}
use Rattle.sets.specs.Lists.{covered}
use Rattle.areas.specs.Areas.{table_size, words_size, halves_size}
use Rattle.transitions.specs.Places.{shifts_at}
use Rattle.transitions.specs.Data.{Holds, Direct, Shifts}
use Rattle.relations.specs.Edge.{Edge}
use Rattle.relations.specs.declared.Relation.TheVariants as relation
use Rattle.digraph.specs.Walked.{BothWalked}

-- all three areas are zero over the lengths given
pub record Cleared (t z w t' z' w' : List ℕ) : Type 0 where
  pub table : t' ≡ covered table_size [] t
  pub words : z' ≡ covered words_size [] z
  pub halves : w' ≡ covered halves_size [] w

-- the sets of the k transitions after both walks, from the direct reads; and the terminals that each of the n states shifts
pub record Complete (c w : List ℕ) (n k : ℕ) (next : ℕ → ℕ → ℕ) (z₀ z : List ℕ) : Type 0 where
  pub begun : List ℕ
  pub direct : (i : ℕ) → i < k → Holds (get_or begun i 0) (Direct c w next i)
  pub walks : BothWalked (Edge relation.Reads c w k) (Edge relation.Includes c w k) k begun z
  pub shifts : (q : ℕ) → q < n → Holds (get_or z (shifts_at + q) 0) (Shifts c next q)
  pub beyond : (i : ℕ) → words_size ≤ i → get_or z i 0 ≡ get_or z₀ i 0
  pub long : length z ≡ length z₀
