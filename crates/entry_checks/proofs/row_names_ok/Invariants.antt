use Rattle.std.proofs.Common.{◌≡◌, ◌-◌, ◌≤◌, true, length}
use Rattle.sets.specs.Tests.{all_below}
use Rattle.tables.specs.Layout.{cell_of}
use Rattle.machine.specs.Checks.{names_ok}
use Rattle.entry_checks.proofs.row_names_ok.Given as goal

abbrev pub invariant-loop-x : goal.invariant-loop-x
invariant-loop-x l = (all_below l.x (λ x. names_ok l.t x (cell_of l.t l.q x)) ≡ true) × (l.x ≤ length l.row)

abbrev pub decreases-loop-x : goal.decreases-loop-x
decreases-loop-x l = length l.row - l.x
