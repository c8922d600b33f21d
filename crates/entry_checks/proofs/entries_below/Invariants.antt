use Rattle.std.proofs.Common.{◌≡◌}
use Rattle.sets.specs.Tests.{all_below}
use Rattle.machine.specs.Checks.{entry_ok}
use Rattle.entry_checks.proofs.entries_below.Given as goal

abbrev pub invariant-loop-q : goal.invariant-loop-q
invariant-loop-q l = l.ok ≡ all_below l.q (entry_ok l.t)
