-- Each round but the last lessens some length.
use Rattle.nonterminals.specs.Lessening.{mass}
use Rattle.sample_words.specs.Words.{Words}
use Rattle.sample.proofs.settle.Given as goal

abbrev pub invariant-loop : goal.invariant-loop
invariant-loop l = Words l.c l.m l.table.lengths l.table.words

abbrev pub decreases-loop : goal.decreases-loop
decreases-loop l = mass l.table.lengths
