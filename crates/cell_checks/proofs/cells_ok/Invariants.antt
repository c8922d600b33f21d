use Rattle.std.proofs.Common.{◌≡◌}
use Rattle.sets.specs.Tests.{all_below}
use Rattle.machine.specs.Checks.{row_ok}
use Rattle.cell_checks.proofs.cells_ok.Given as goal

abbrev pub invariant-loop-q : goal.invariant-loop-q
invariant-loop-q l = l.ok ≡ all_below l.q (row_ok l.t)
