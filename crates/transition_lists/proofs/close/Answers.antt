use Rattle.std.proofs.Common.{arith}
use Rattle.transition_lists.proofs.PassLaws.{store_none}
use Rattle.transition_lists.proofs.close.Goals as goal

pub loop-u-preserved : goal.loop-u-preserved
loop-u-preserved c = λ s f N t P. store_none s _ f N t _ _ _ _ _ (omega arith) (omega arith) c.put.ensures (c.loop-u.invariant s f N t P)
