-- The digits counted and those of what is left are one more than all.
use Rattle.std.proofs.Common.{◌≡◌, ◌+◌, ◌≤◌, length}
use Rattle.decimal.specs.Digits.{decimal_of}
use Rattle.pages.proofs.digits.Given as goal

abbrev pub invariant-loop-y : goal.invariant-loop-y
invariant-loop-y l = (l.n + length (decimal_of l.y) ≡ 1 + length (decimal_of l.x)) × (l.n + l.y ≤ 1 + l.x)

abbrev pub decreases-loop-y : goal.decreases-loop-y
decreases-loop-y l = l.y
