-- A number below ten is its digit; any other has the digits of its tenth before the last.
use Rattle.std.proofs.Common.{◌≤◌, arith}
use Rattle.decimal.proofs.Decimal.{decimal_one, decimal_more}
use Rattle.decimal.proofs.Written.{wrote_both}
use Rattle.decimal.proofs.writer.Page.+number.Goals as goal

pub returns-then-x-lt10 : goal.returns-then-x-lt10
returns-then-x-lt10 t c = rw (decimal_one _ c.if-x-lt10.true) c.put.ensures

pub returns : goal.returns
returns t c =
    let big : 10 ≤ c.args.x = omega (arith, c.if-x-lt10.false) in
    rw (decimal_more _ big) (wrote_both c.number.ensures c.put-2.ensures)
