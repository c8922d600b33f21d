-- As many cells are written as the loop has passed, each in 6 columns.
use Rattle.pages.proofs.Writing.{Celled}
use Rattle.pages.proofs.cells.Given as goal

abbrev pub invariant-loop-k : goal.invariant-loop-k
invariant-loop-k l = Celled l.t l.from l.initial.page l.k l.page
