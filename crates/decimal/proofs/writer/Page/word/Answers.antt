-- One byte more of the word is written.
use Rattle.decimal.proofs.Written.{wrote_none, wrote_next}
use Rattle.decimal.proofs.writer.Page.word.Goals as goal

pub loop-b-init : goal.loop-b-init
loop-b-init c = wrote_none _

pub loop-b-preserved : goal.loop-b-preserved
loop-b-preserved c = wrote_next _ _ c.loop-b-test.true c.loop-b.invariant c.put.ensures
