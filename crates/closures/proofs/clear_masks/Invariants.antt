use Rattle.std.proofs.Common.{◌≤◌, length}
use Rattle.areas.specs.Areas.{words_size}
use Rattle.closures.proofs.MaskLaws.{Clearing}
use Rattle.closures.proofs.clear_masks.Given as goal

abbrev pub invariant-loop-x : goal.invariant-loop-x
invariant-loop-x l = Clearing l.initial.z l.z l.x × (l.n ≤ 124) × (words_size ≤ length l.z)
