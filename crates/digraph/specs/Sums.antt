-- Request 13 of the walks: what is claimed of the sets that a walk leaves in the area, by its contract alone and however it is done.
use Rattle.std.specs.Prelude.{ℕ, ◌≤◌, ◌<◌, ◌≡◌, ◌↔◌, List, length}
use Rattle.sets.specs.Bit.{Has}
use Rattle.completion.specs.Completion.{Join, Completed}
use Rattle.completion.specs.Sums.{Decided, Same, joined}
use Rattle.transitions.specs.Places.{shifts_at}
use Rattle.digraph.specs.Walked.{Walked, BothWalked, at}

-- what W makes of areas adds up: of joined sets it makes the joins of what it makes of each
abbrev pub Adds : (List ℕ → List ℕ → Type 0) → ℕ → Type 0
Adds W k = (x y z x' y' z' : List ℕ) → W x x' → W y y' → W z z' → Same k (at z) (joined (at x) (at y)) → Same k (at z') (joined (at x') (at y'))

-- of the walk along E
pub record WalkAddsUp (E : ℕ → ℕ → Type 0) (k : ℕ) : Type 0 where
  -- "a move's completed set must be the join of the starting sets of that move and of every move reached from it along the relation"
  pub is_join : {z z' : List ℕ} → Walked E k z z' → (v m : ℕ) → v < k → Has (at z' v) m ↔ Join E (at z) v m
  -- "the completed sets of the joined starts must be the joins of the completed sets"
  pub adds : Adds (Walked E k) k
  -- "and completing twice must equal completing once"
  pub twice : {z z' z'' : List ℕ} → Walked E k z z' → Walked E k z' z'' → Same k (at z'') (at z')
  -- so the joins of sets walked apart are what one walk over the joined sets leaves
  pub of_joined : {x y x' y' : List ℕ} (z z' : List ℕ) → Walked E k x x' → Walked E k y y' → Same k (at z) (joined (at x) (at y)) → Same k (at z') (joined (at x') (at y')) → Completed E k (at z) (at z')
  -- where E can be told, there is for an area with room one that a walk may leave
  pub some : Decided E → (z : List ℕ) → k ≤ shifts_at → k ≤ length z → (z' : List ℕ) × Walked E k z z'

-- an area with the joined sets of two areas exists, where the first has room
abbrev pub SomeJoined : ℕ → Type 0
SomeJoined k = (x y : List ℕ) → k ≤ length x → (z : List ℕ) × (length z ≡ length x) × Same k (at z) (joined (at x) (at y))

-- of both walks, one behind the other
pub record BothAddUp (R I : ℕ → ℕ → Type 0) (k : ℕ) : Type 0 where
  pub adds : Adds (BothWalked R I k) k
  pub some : Decided R → Decided I → (z : List ℕ) → k ≤ shifts_at → k ≤ length z → (z'' : List ℕ) × BothWalked R I k z z''
