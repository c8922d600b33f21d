-- As many rows are written as the loop has passed, and the next one stands where they end.
use Rattle.pages.proofs.Writing.{Going}
use Rattle.pages.proofs.rows.Given as goal

abbrev pub invariant-loop-q : goal.invariant-loop-q
invariant-loop-q l = Going l.t l.count l.w l.from l.q l.initial.page l.page
