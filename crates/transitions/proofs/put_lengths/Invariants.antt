use Rattle.transitions.specs.Writes.{Measured}
use Rattle.transitions.proofs.put_lengths.Given as goal

abbrev pub invariant-loop-j : goal.invariant-loop-j
invariant-loop-j l = Measured l.initial.w l.e l.j l.w
