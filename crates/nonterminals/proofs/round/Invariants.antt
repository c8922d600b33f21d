use Rattle.nonterminals.specs.Gathering.{Round}
use Rattle.nonterminals.proofs.round.Given as goal

abbrev pub invariant-loop-r : goal.invariant-loop-r
invariant-loop-r g l = Round l.c g.kind l.w l.r l.t
