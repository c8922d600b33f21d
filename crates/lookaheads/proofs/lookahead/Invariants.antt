use Rattle.std.proofs.Common.{ℕ, ◌≤◌, ◌-◌}
use Rattle.transitions.specs.Data.{Ordered}
use Rattle.lookaheads.proofs.LookLaws.{Looked}
use Rattle.lookaheads.proofs.lookahead.Given as goal

abbrev pub invariant-loop-p : goal.invariant-loop-p
invariant-loop-p l = (l.from ≤ 256) × ((k : ℕ) → Ordered l.c l.w k → Looked l.c l.w l.z k l.q l.r l.from l.s)

abbrev pub decreases-loop-p : goal.decreases-loop-p
decreases-loop-p l = 256 - l.from
