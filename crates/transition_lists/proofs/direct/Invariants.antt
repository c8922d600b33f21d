use Rattle.std.proofs.Common.{ℕ, List}
use Rattle.transitions.specs.Next.{next_of}
use Rattle.transition_lists.specs.Words.{Copied}
use Rattle.transition_lists.proofs.direct.Given as goal

abbrev pub invariant-loop-i : goal.invariant-loop-i
invariant-loop-i l = (a : List ℕ) → Copied l.c l.w (next_of l.c l.t l.n) a l.initial.z l.n 0 → Copied l.c l.w (next_of l.c l.t l.n) a l.z l.n l.i
