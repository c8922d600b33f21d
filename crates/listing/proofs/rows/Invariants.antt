-- As many rows are written as the loop has passed, and the next one stands where they end.
use Rattle.listing.proofs.Lines.{Going}
use Rattle.listing.proofs.rows.Given as goal

abbrev pub invariant-loop-q : goal.invariant-loop-q
invariant-loop-q l = Going l.t l.count l.width l.from l.q l.initial.page l.page
