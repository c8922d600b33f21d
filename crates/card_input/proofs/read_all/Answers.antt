-- Before the first read the scan has been fed nothing; a read feeds it what leaves the reader; and at the end of the input
-- all of it was fed.
use Rattle.card_input.proofs.Parts.{none, joined, ended}
use Rattle.card_input.proofs.read_all.Goals as goal

pub loop-init : goal.loop-init
loop-init g c = none _ _

pub loop-preserved : goal.loop-preserved
loop-preserved g c = joined _ _ _ _ _ _ c.loop.invariant (rw c.in-Some.is at c.in_ok-t.ensures)

pub returns-in-None : goal.returns-in-None
returns-in-None g c = let end = rw c.in-None.is at c.in_ok-t.ensures in ended _ _ _ _ _ _ _ c.loop.invariant end.0 end.1 end.2
