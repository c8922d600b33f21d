use Rattle.std.proofs.Common.{◌≡◌, ◌+◌, ◌≤◌, ◌<◌, length}
use Rattle.items.specs.Item.{item_limit}
use Rattle.closures.specs.Areas.{Filled, Kept}
use Rattle.closures.proofs.fill_production.Given as goal

abbrev pub invariant-loop-i : goal.invariant-loop-i
invariant-loop-i l =
    Filled l.c l.w (l.f + l.i) × (length l.w ≡ length l.initial.w) × Kept l.initial.w item_limit l.w × (l.f + l.n < 640) × (l.s + l.n ≤ 512) × (item_limit ≤ length l.w)
