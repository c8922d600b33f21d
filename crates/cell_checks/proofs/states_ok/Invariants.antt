use Rattle.std.proofs.Common.{◌≡◌, get_or, ltb}
use Rattle.sets.specs.Tests.{all_below}
use Rattle.cell_checks.proofs.states_ok.Given as goal

abbrev pub invariant-loop-v : goal.invariant-loop-v
invariant-loop-v l = l.ok ≡ all_below l.v-index (λ i. ltb (get_or l.cells i 0) l.q)
