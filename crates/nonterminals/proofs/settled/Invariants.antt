-- Each round but the last adds to the set, which is below 2 ^ N.
use Rattle.std.proofs.Common.{◌-◌, ◌^◌}
use Rattle.sets.specs.Bit.{Within}
use Rattle.grammar.specs.Card.{nonterminals}
use Rattle.nonterminals.specs.Gathering.{Sound}
use Rattle.nonterminals.proofs.settled.Given as goal

abbrev pub ghost-round : goal.ghost-round
ghost-round g a = g.kind

abbrev pub invariant-loop-t : goal.invariant-loop-t
invariant-loop-t g l = Within l.w l.t × Sound l.c g.kind l.t

abbrev pub decreases-loop-t : goal.decreases-loop-t
decreases-loop-t g l = 2 ^ nonterminals l.c - l.t
