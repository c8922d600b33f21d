-- Each open terminal is found, wrong, or still to be decided; each turn decides some.
use Rattle.std.proofs.Common.{◌≡◌, length}
use Rattle.sets.specs.Bit.{bit, count}
use Rattle.exploration.specs.Phases.{Deciding}
use Rattle.exploration.proofs.others.Given as goal

abbrev pub invariant-loop-todo : goal.invariant-loop-todo
invariant-loop-todo l = Deciding l.table l.closed l.step_limit (length l.initial.second) l.line l.todo l.found × (length l.second ≡ length l.initial.second)

abbrev pub decreases-loop-todo : goal.decreases-loop-todo
decreases-loop-todo l = count (bit l.todo) 64
