use Rattle.parser.proofs.Going.{Going}
use Rattle.parser.proofs.advance.Given as goal

abbrev pub invariant-loop-z : goal.invariant-loop-z
invariant-loop-z l = Going l.table l.line l.barred l.cells l.fn.from l.z l.fn.stack l.fn.list l.stack l.list l.s

abbrev pub decreases-loop-z : goal.decreases-loop-z
decreases-loop-z l = l.s.left
