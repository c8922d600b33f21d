-- What is left has one digit less each time.
use Rattle.std.proofs.Common.{arith}
use Rattle.pages.proofs.Writing.{one_digit, one_less}
use Rattle.pages.proofs.digits.Goals as goal

pub loop-y-preserved : goal.loop-y-preserved
loop-y-preserved c = (omega (arith, c.loop-y.invariant.0, one_less _ c.loop-y-test.true), omega (arith, c.loop-y.invariant.1))

pub returns : goal.returns
returns c = omega (arith, c.loop-y.invariant.0, one_digit _ c.loop-y-test.false)
