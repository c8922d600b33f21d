-- No number is written at first, then one more each time; the loop ends where the numbers do.
use Rattle.std.proofs.Common.{◌≡◌, ◌-◌, arith}
use Rattle.listing.proofs.Lines.{numbers_none, numbers_next}
use Rattle.listing.proofs.numbers.Goals as goal

pub loop-i-init : goal.loop-i-init
loop-i-init c = (numbers_none _ _ _ _ (omega arith), omega arith)

pub loop-i-preserved : goal.loop-i-preserved
loop-i-preserved c = (numbers_next _ _ _ _ (omega arith) c.at.ensures.0 c.loop-i.invariant.0 c.put.ensures c.number.ensures, omega arith)

pub returns : goal.returns
returns c =
    let all : c.loop-i.i - c.args.from ≡ c.args.end - c.args.from = omega (arith, c.loop-i.invariant.1) in
    rw all at c.loop-i.invariant.0
