use Rattle.std.proofs.Common.{◌-◌, ◌≤◌, ◌≡◌, length}
use Rattle.items.specs.Item.{set_size, item_limit}
use Rattle.closures.specs.Sets.{Afters}
use Rattle.closures.proofs.afters.Given as goal

abbrev pub invariant-loop-i : goal.invariant-loop-i
invariant-loop-i l = Afters l.c l.s l.from l.a × (l.from ≤ item_limit) × (length l.a ≡ set_size)

abbrev pub decreases-loop-i : goal.decreases-loop-i
decreases-loop-i l = item_limit - l.from
