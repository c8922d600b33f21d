use Rattle.std.proofs.Common.{◌≡◌}
use Rattle.sets.specs.Tests.{all_below}
use Rattle.machine.specs.Checks.{row_names_ok}
use Rattle.entry_checks.proofs.rows_names_ok.Given as goal

abbrev pub invariant-loop-q : goal.invariant-loop-q
invariant-loop-q l = l.ok ≡ all_below l.q (row_names_ok l.t)
