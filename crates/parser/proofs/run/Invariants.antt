use Rattle.parser.proofs.Running.{Running}
use Rattle.parser.proofs.run.Given as goal

abbrev pub invariant-loop-end : goal.invariant-loop-end
invariant-loop-end l = Running l.table l.line l.barred l.cells l.step_limit l.z l.initial.stack l.initial.list l.initial.second l.stack l.list l.second l.s l.checkpoint l.left

abbrev pub decreases-loop-end : goal.decreases-loop-end
decreases-loop-end l = l.left
