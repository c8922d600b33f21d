use Rattle.std.proofs.Common.{◌≡◌}
use Rattle.sets.specs.Tests.{all_below}
use Rattle.scans.specs.OpenFront.{outside}
use Rattle.scans.proofs.all_outside.Given as goal

abbrev pub invariant-loop-b : goal.invariant-loop-b
invariant-loop-b l = l.ok ≡ all_below l.b-index (outside l.lo l.hi l.input)
