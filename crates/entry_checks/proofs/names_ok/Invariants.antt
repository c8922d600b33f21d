use Rattle.std.proofs.Common.{◌≡◌, ◌+◌, true, get_or}
use Rattle.sets.specs.Tests.{all_below}
use Rattle.machine.specs.Checks.{names_ok}
use Rattle.entry_checks.proofs.names_ok.Given as goal

abbrev pub invariant-loop-i : goal.invariant-loop-i
invariant-loop-i l = all_below l.i (λ i. names_ok l.t (l.x + i) (get_or l.cells i 0)) ≡ true
