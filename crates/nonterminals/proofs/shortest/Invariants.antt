-- Each round but the last lessens some length.
use Rattle.nonterminals.specs.Lessening.{DueBy, mass}
use Rattle.nonterminals.proofs.shortest.Given as goal

abbrev pub invariant-loop-v : goal.invariant-loop-v
invariant-loop-v l = DueBy l.c l.e l.w

abbrev pub decreases-loop-v : goal.decreases-loop-v
decreases-loop-v l = mass l.e
