use Rattle.lookaheads.proofs.LookLaws.{Gathered}
use Rattle.lookaheads.proofs.candidates.Given as goal

abbrev pub invariant-loop-i : goal.invariant-loop-i
invariant-loop-i l = Gathered l.w l.keyed l.q l.i l.s
