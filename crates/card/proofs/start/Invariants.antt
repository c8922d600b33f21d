use Rattle.std.proofs.Common.{◌≡◌}
use Rattle.grammar.specs.Card.{start_of}
use Rattle.card.proofs.start.Given as goal

abbrev pub invariant-loop-i : goal.invariant-loop-i
invariant-loop-i l = l.s ≡ start_of l.c l.i
