-- `header` meets its contract: there is room for the four sizes.
use Rattle.std.proofs.Common.{rules}
use native.Mathlib.Omega.{arith}
use Rattle.merged_card.proofs.SizeLaws.{sizes_room}
use Rattle.merged_card.proofs.header.Goals as goal

pub bounds-out-0 : goal.bounds-out-0
bounds-out-0 c = omega (arith, sizes_room _ _ _ c.requires)

pub bounds-out-1 : goal.bounds-out-1
bounds-out-1 c = let h = sizes_room _ _ _ c.requires in search rules

pub bounds-out-2 : goal.bounds-out-2
bounds-out-2 c = let h = sizes_room _ _ _ c.requires in search rules

pub bounds-out-3 : goal.bounds-out-3
bounds-out-3 c = let h = sizes_room _ _ _ c.requires in search rules
