-- What it means that sets are completed along a relation.
-- The nodes are 0, .., k - 1; a set is a number, and m is in it where its digit m is 1.
use Rattle.std.specs.Prelude.{ℕ, ◌<◌}
use Rattle.sets.specs.Bit.{Has}
use Rattle.sets.specs.Reach.{Reaches}

-- E is a relation among the nodes 0, .., k - 1
abbrev pub Among : (ℕ → ℕ → Type 0) → ℕ → Type 0
Among E k = (v w : ℕ) → v < k → E v w → w < k

-- m is in the join of the sets F of the nodes that v reaches, v itself among them
abbrev pub Join : (ℕ → ℕ → Type 0) → (ℕ → ℕ) → ℕ → ℕ → Type 0
Join E F v m = (u : ℕ) × Reaches E v u × Has (F u) m

-- the sets F' are the sets F completed: that of each node is the join of those of the nodes that it reaches
pub record Completed (E : ℕ → ℕ → Type 0) (k : ℕ) (F F' : ℕ → ℕ) : Type 0 where
  pub only : (v m : ℕ) → v < k → Has (F' v) m → Join E F v m
  pub all : (v m : ℕ) → v < k → Join E F v m → Has (F' v) m
