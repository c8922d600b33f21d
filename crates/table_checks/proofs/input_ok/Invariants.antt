use Rattle.std.proofs.Common.{◌≡◌, ◌&&◌, get_or, ltb}
use Rattle.sets.specs.Tests.{all_below}
use Rattle.table_checks.proofs.input_ok.Given as goal

abbrev pub invariant-loop-b : goal.invariant-loop-b
invariant-loop-b l = l.ok ≡ all_below l.b-index (λ i. ltb 0 (get_or l.l i 0) && ltb (get_or l.l i 0) l.n)
