use Rattle.std.proofs.Common.{◌-◌, ◌≤◌, ◌<◌}
use Rattle.states.specs.States.{Row}
use Rattle.states.proofs.row.Given as goal

abbrev pub invariant-loop-x : goal.invariant-loop-x
invariant-loop-x l = Row l.c l.s l.initial.z l.m l.initial.t l.at l.z l.n l.t l.x × (0 < l.x) × (l.x ≤ l.end)

abbrev pub decreases-loop-x : goal.decreases-loop-x
decreases-loop-x l = l.end - l.x
