use Rattle.scans.proofs.Cleared.{Cleared}
use Rattle.scans.proofs.clear.Given as goal

abbrev pub invariant-loop-i : goal.invariant-loop-i
invariant-loop-i l = Cleared l.initial.second l.second l.i
