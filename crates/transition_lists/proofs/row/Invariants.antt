use Rattle.std.proofs.Common.{◌+◌}
use Rattle.transitions.specs.Next.{next_of}
use Rattle.transition_lists.specs.Passes.{Come}
use Rattle.transition_lists.proofs.row.Given as goal

abbrev pub invariant-loop-x : goal.invariant-loop-x
invariant-loop-x l = Come l.c (next_of l.c l.t l.n) l.initial.w l.w l.q l.x l.r (l.q + 1)
