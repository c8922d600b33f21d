use Rattle.transitions.specs.Next.{next_of}
use Rattle.transition_lists.specs.Passes.{Come}
use Rattle.transition_lists.proofs.rows.Given as goal

abbrev pub invariant-loop-q : goal.invariant-loop-q
invariant-loop-q l = Come l.c (next_of l.c l.t l.n) l.initial.w l.w l.q 1 l.k l.q
