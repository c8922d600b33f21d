use Rattle.std.proofs.Common.{◌-◌, ◌≤◌}
use Rattle.items.specs.Item.{item_limit}
use Rattle.closures.proofs.ClosureLaws.{Closing}
use Rattle.closures.proofs.closure.Given as goal

abbrev pub invariant-loop-i : goal.invariant-loop-i
invariant-loop-i l = Closing l.c l.z l.s l.from l.r × (l.from ≤ item_limit)

abbrev pub decreases-loop-i : goal.decreases-loop-i
decreases-loop-i l = item_limit - l.from
