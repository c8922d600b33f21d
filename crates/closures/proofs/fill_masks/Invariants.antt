use Rattle.std.proofs.Common.{◌≤◌, length}
use Rattle.areas.specs.Areas.{words_size}
use Rattle.closures.specs.Areas.{Masked}
use Rattle.closures.proofs.fill_masks.Given as goal

abbrev pub invariant-loop-i : goal.invariant-loop-i
invariant-loop-i l = Masked l.c l.initial.z l.z l.i × (words_size ≤ length l.z)
