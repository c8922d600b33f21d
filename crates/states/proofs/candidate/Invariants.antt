use Rattle.std.proofs.Common.{◌-◌, ◌≤◌}
use Rattle.states.proofs.RowLaws.{Passed}
use Rattle.states.proofs.candidate.Given as goal

abbrev pub invariant-loop-q : goal.invariant-loop-q
invariant-loop-q l = Passed l.z l.p l.k l.v l.q × (l.q ≤ l.n)

abbrev pub decreases-loop-q : goal.decreases-loop-q
decreases-loop-q l = l.n - l.q

abbrev pub invariant-loop-r : goal.invariant-loop-r
invariant-loop-r l = Passed l.z l.p l.k l.v l.r
