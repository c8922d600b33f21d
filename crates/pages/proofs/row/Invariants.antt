-- As many lines of the row are written as the loop has passed.
use Rattle.sets.specs.Lists.{each}
use Rattle.decimal.specs.Writing.{Wrote}
use Rattle.pages.proofs.Writing.{line_at}
use Rattle.pages.proofs.row.Given as goal

abbrev pub invariant-loop-i : goal.invariant-loop-i
invariant-loop-i l = Wrote l.initial.page (each l.i (line_at l.t l.q l.from l.w)) l.page
