use Rattle.cells.proofs.WordLaws.{putting_more, putting_end}
use Rattle.cells.proofs.put.Goals as goal

pub loop-left-preserved : goal.loop-left-preserved
loop-left-preserved c = putting_more _ _ _ _ _ _ c.loop-left-test.true c.requires c.loop-left.invariant

pub returns : goal.returns
returns c = putting_end _ _ _ _ _ _ c.loop-left-test.false c.loop-left.invariant
