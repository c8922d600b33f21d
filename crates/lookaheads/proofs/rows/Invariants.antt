use Rattle.std.proofs.Common.{ℕ}
use Rattle.transitions.specs.Data.{Ordered}
use Rattle.lookaheads.specs.Outcome.{NoneBelow, Stands, Rows}
use Rattle.lookaheads.proofs.rows.Given as goal

abbrev pub invariant-loop-q : goal.invariant-loop-q
invariant-loop-q l = (k : ℕ) → Ordered l.c l.w k → Rows l.c (Stands l.c l.initial.t l.w l.z l.n k) l.q l.initial.t l.t

abbrev pub invariant-loop-m : goal.invariant-loop-m
invariant-loop-m l = NoneBelow l.meet l.m
