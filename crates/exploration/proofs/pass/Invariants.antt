-- The fresh readings of the group stand at s; each turn takes a step.
use Rattle.std.proofs.Common.{length}
use Rattle.exploration.proofs.Passes.{Passing}
use Rattle.exploration.proofs.pass.Given as goal

abbrev pub invariant-loop-x : goal.invariant-loop-x
invariant-loop-x l = Passing l.table l.step_limit (length l.initial.second) l.line l.todo l.second l.s l.group l.found l.later

abbrev pub decreases-loop-x : goal.decreases-loop-x
decreases-loop-x l = l.s.left
