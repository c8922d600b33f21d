use Rattle.std.proofs.Common.{ℕ, List}
use Rattle.transitions.specs.Next.{next_of}
use Rattle.transition_lists.specs.Words.{Copied}
use Rattle.transition_lists.proofs.words.Given as goal

abbrev pub invariant-loop-q : goal.invariant-loop-q
invariant-loop-q l = (w : List ℕ) → Copied l.c w (next_of l.c l.t l.n) l.initial.z l.z l.q 0
