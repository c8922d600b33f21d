use Rattle.std.proofs.Common.{◌≡◌, ◌*◌, length}
use Rattle.items.specs.Item.{set_size}
use Rattle.closures.specs.Areas.{masks_at, Closures, Kept}
use Rattle.closures.proofs.fill_closures.Given as goal

abbrev pub invariant-loop-j : goal.invariant-loop-j
invariant-loop-j l = Closures l.c l.z l.j × (length l.z ≡ length l.initial.z) × Kept l.initial.z (masks_at * set_size) l.z
