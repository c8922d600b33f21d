use Rattle.std.proofs.Common.{◌≡◌, get_or}
use Rattle.sets.specs.Tests.{all_below}
use Rattle.entry_checks.specs.Names.{unnamed}
use Rattle.entry_checks.proofs.none_named.Given as goal

abbrev pub invariant-loop-v : goal.invariant-loop-v
invariant-loop-v l = l.ok ≡ all_below l.v-index (λ i. unnamed l.q (get_or l.cells i 0))
