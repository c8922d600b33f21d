use Rattle.transitions.specs.Next.{next_of}
use Rattle.transitions.specs.Data.{Holds}
use Rattle.transition_lists.specs.Words.{Marked}
use Rattle.transition_lists.proofs.shifts.Given as goal

abbrev pub invariant-loop-x : goal.invariant-loop-x
invariant-loop-x l = Holds l.s (Marked (next_of l.c l.t l.n) l.q l.x)
