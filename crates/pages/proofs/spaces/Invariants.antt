-- As many blanks are written as the loop has passed.
use Rattle.decimal.specs.Writing.{Wrote}
use Rattle.pages.specs.Pages.{blanks}
use Rattle.pages.proofs.spaces.Given as goal

abbrev pub invariant-loop-i : goal.invariant-loop-i
invariant-loop-i l = Wrote l.initial.page (blanks l._i) l.page
