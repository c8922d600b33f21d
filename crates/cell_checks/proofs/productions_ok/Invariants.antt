use Rattle.std.proofs.Common.{◌≡◌}
use Rattle.sets.specs.Tests.{all_below}
use Rattle.machine.specs.Checks.{production_ok}
use Rattle.cell_checks.proofs.productions_ok.Given as goal

abbrev pub invariant-loop-r : goal.invariant-loop-r
invariant-loop-r l = l.ok ≡ all_below l.r (production_ok l.t)
