use Rattle.std.proofs.Common.{◌≡◌}
use Rattle.grammar.specs.Card.{start_of}
use Rattle.nonterminals.specs.Gathering.{Rights}
use Rattle.nonterminals.proofs.put_rights.Given as goal

abbrev pub invariant-loop-r : goal.invariant-loop-r
invariant-loop-r l = Rights l.c l.r l.v × (l.s ≡ start_of l.c l.r)
