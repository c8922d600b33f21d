-- As many blank lines are written as the loop has passed.
use Rattle.std.proofs.Common.{[]}
use Rattle.sets.specs.Lists.{each}
use Rattle.decimal.specs.Writing.{Wrote}
use Rattle.pages.specs.Pages.{page_line}
use Rattle.pages.proofs.fill.Given as goal

abbrev pub invariant-loop-i : goal.invariant-loop-i
invariant-loop-i l = Wrote l.initial.page (each l._i (λ k. page_line [])) l.page
