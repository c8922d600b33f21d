use Rattle.cells.proofs.WordLaws.{Putting}
use Rattle.cells.proofs.put.Given as goal

abbrev pub invariant-loop-left : goal.invariant-loop-left
invariant-loop-left l = Putting l.b l.word l.v l.left l.initial.t l.t

abbrev pub decreases-loop-left : goal.decreases-loop-left
decreases-loop-left l = l.left
