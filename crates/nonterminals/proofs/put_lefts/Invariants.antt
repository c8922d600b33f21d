use Rattle.nonterminals.specs.Gathering.{Lefts}
use Rattle.nonterminals.proofs.put_lefts.Given as goal

abbrev pub invariant-loop-r : goal.invariant-loop-r
invariant-loop-r l = Lefts l.c l.r l.v
