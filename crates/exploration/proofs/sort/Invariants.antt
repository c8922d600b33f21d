-- The terminals that are not left in g are sorted.
use Rattle.std.proofs.Common.{get_or, ◌+◌}
use Rattle.exploration.proofs.Sorts.{Walk}
use Rattle.exploration.proofs.sort.Given as goal

abbrev pub invariant-loop-g : goal.invariant-loop-g
invariant-loop-g l = Walk (λ m. get_or l.cells (l.row + m) 0) l.s l.places l.group l.r l.g

abbrev pub decreases-loop-g : goal.decreases-loop-g
decreases-loop-g l = l.g
