-- `transfer` meets its contract: each turn writes one number more.
use Rattle.merged_card.proofs.WritingLaws.{part_next}
use Rattle.merged_card.proofs.transfer.Goals as goal

pub loop-j-preserved : goal.loop-j-preserved
loop-j-preserved c = part_next _ _ _ _ _ c.loop-j-test.true c.requires.1 c.loop-j.invariant c.moved.ensures
