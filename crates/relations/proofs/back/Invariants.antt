use Rattle.transitions.specs.Occurrences.{symbol_at}
use Rattle.transitions.specs.Data.{Enters}
use Rattle.relations.specs.Path.{Path, States}
use Rattle.relations.proofs.back.Given as goal

abbrev pub invariant-loop-i : goal.invariant-loop-i
invariant-loop-i l = States l.s (Path (Enters l.w) (symbol_at l.c l.r) l.d l.q l.i)
