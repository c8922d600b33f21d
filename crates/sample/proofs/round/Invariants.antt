-- The productions from r on are passed.
use Rattle.std.proofs.Common.{◌≡◌}
use Rattle.grammar.specs.Card.{start_of}
use Rattle.sample_words.specs.Words.{Words, Lower}
use Rattle.sample.specs.Search.{StillFrom}
use Rattle.sample.proofs.round.Given as goal

abbrev pub invariant-loop-r : goal.invariant-loop-r
invariant-loop-r l = Words l.c l.m l.table.lengths l.table.words × Lower l.initial.table.lengths l.table.lengths (StillFrom l.c l.m l.r) l.lessened × (l.s ≡ start_of l.c l.r)
