use Rattle.std.proofs.Common.{ℕ, ◌-◌, ◌≤◌, ◌<◌}
use Rattle.closures.specs.Areas.{slot}
use Rattle.closures.specs.Sets.{Alike}
use Rattle.states.proofs.find.Given as goal

abbrev pub invariant-loop-q : goal.invariant-loop-q
invariant-loop-q l = (l.from ≤ l.n) × ((p : ℕ) → p < l.from → Alike (slot l.z p) l.s → ⊥)

abbrev pub decreases-loop-q : goal.decreases-loop-q
decreases-loop-q l = l.n - l.from
