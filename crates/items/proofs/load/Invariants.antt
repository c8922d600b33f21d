use Rattle.std.proofs.Common.{take, drop, length, ◌≡◌}
use Rattle.items.specs.Item.{set_size}
use Rattle.items.proofs.load.Given as goal

abbrev pub invariant-loop-i : goal.invariant-loop-i
invariant-loop-i l = (length l.t ≡ set_size) × (take l.i l.t ≡ take l.i (drop l.at l.d))
