use Rattle.std.proofs.Common.{arith}
use Rattle.scans.proofs.Cleared.{cleared_none, cleared_more, cleared_all}
use Rattle.scans.proofs.clear.Goals as goal

pub loop-i-init : goal.loop-i-init
loop-i-init c = cleared_none _

pub loop-i-preserved : goal.loop-i-preserved
loop-i-preserved c = cleared_more c.loop-i.invariant (omega (arith, c.loop-i-test.true))

pub returns : goal.returns
returns c = cleared_all c.loop-i.invariant (omega (arith, c.loop-i-test.false))
