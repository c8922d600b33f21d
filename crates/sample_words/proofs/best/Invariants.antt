-- After d symbols.
use Rattle.sample_words.proofs.SumLaws.{Going}
use Rattle.sample_words.specs.Words.{place_of}
use Rattle.sample_words.proofs.best.Given as goal

abbrev pub invariant-loop-d : goal.invariant-loop-d
invariant-loop-d l = Going l.c l.table.lengths l.r l.d l.plain l.used (place_of l.c l.r l.place)
