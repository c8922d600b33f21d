-- The first d symbols are counted.
use Rattle.std.proofs.Common.{◌≡◌}
use Rattle.nonterminals.proofs.LengthLaws.{part_of}
use Rattle.nonterminals.proofs.total.Given as goal

abbrev pub invariant-loop-d : goal.invariant-loop-d
invariant-loop-d l = l.v ≡ part_of l.c l.e l.r l.d
