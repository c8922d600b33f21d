use Rattle.std.proofs.Common.{◌≡◌, get_or}
use Rattle.sets.specs.Tests.{all_below}
use Rattle.cell_checks.specs.Rows.{action_test}
use Rattle.cell_checks.proofs.actions_ok.Given as goal

abbrev pub invariant-loop-v : goal.invariant-loop-v
invariant-loop-v l = l.ok ≡ all_below l.v-index (λ i. action_test l.q l.e (get_or l.cells i 0))
