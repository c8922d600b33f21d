use Rattle.cells.specs.Areas.{Arrays}
use Rattle.cells.proofs.arrays.Given as goal

abbrev pub invariant-loop-r : goal.invariant-loop-r
invariant-loop-r l = Arrays l.c l.r l.initial.t l.t
