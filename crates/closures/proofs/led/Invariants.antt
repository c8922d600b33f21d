use Rattle.closures.proofs.LeadLaws.{Leading}
use Rattle.closures.proofs.led.Given as goal

abbrev pub invariant-loop-k : goal.invariant-loop-k
invariant-loop-k l = Leading l.c l.t l.k
