use Rattle.card.specs.Pass.{After}
use Rattle.card.proofs.pass.Given as goal

abbrev pub invariant-loop-r : goal.invariant-loop-r
invariant-loop-r l = After l.c l.r l.p
