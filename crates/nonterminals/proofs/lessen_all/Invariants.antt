-- The productions from r on are passed.
use Rattle.std.proofs.Common.{◌≡◌}
use Rattle.grammar.specs.Card.{start_of}
use Rattle.nonterminals.specs.Lessening.{LessenedTo, Lower}
use Rattle.nonterminals.proofs.lessen_all.Given as goal

abbrev pub invariant-loop-r : goal.invariant-loop-r
invariant-loop-r l = LessenedTo l.c l.w l.r l.e l.u × Lower l.initial.e l.e l.u × (l.s ≡ start_of l.c l.r)
