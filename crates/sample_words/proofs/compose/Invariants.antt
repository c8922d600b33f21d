-- After d symbols.
use Rattle.sample_words.proofs.PieceLaws.{Composing}
use Rattle.sample_words.specs.Words.{place_of}
use Rattle.sample_words.proofs.compose.Given as goal

abbrev pub invariant-loop-d : goal.invariant-loop-d
invariant-loop-d l = Composing l.c l.table.lengths l.table.words l.r (place_of l.c l.r l.place) l.d l.m l.b
