use Rattle.std.proofs.Common.{◌≡◌, ◌-◌, ◌≤◌}
use Rattle.areas.specs.Areas.{row_of}
use Rattle.states.specs.States.{Table}
use Rattle.states.proofs.rows.Given as goal

abbrev pub invariant-loop-q : goal.invariant-loop-q
invariant-loop-q l = Table l.c l.initial.z l.initial.t l.z l.n l.t l.q × (l.at ≡ row_of l.c l.q) × (l.q ≤ l.n)

abbrev pub decreases-loop-q : goal.decreases-loop-q
decreases-loop-q l = 256 - l.q
