-- A state of more than four digits takes as many columns; none has more than twenty.
use Rattle.std.proofs.Common.{◌≤◌, length, sym, arith}
use Rattle.decimal.specs.Digits.{decimal_of}
use Rattle.pages.proofs.Writing.{few_digits, opened_state, opened_blank}
use Rattle.pages.proofs.opened.Goals as goal

pub returns-then-i-eq0 : goal.returns-then-i-eq0
returns-then-i-eq0 c =
    let few : length (decimal_of c.args.q) ≤ 20 = few_digits c.args.q (omega (arith, c.ranges.q)) in
    (omega (arith, c.max.ensures, opened_state c.args.q _ _ c.if-i-eq0.true c.digits.ensures), omega (arith, c.max.ensures, few, c.digits.ensures))

pub returns-else-i-eq0 : goal.returns-else-i-eq0
returns-else-i-eq0 c = (sym (opened_blank c.args.q _ c.if-i-eq0.false), omega arith)
