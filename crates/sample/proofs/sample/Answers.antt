use Rattle.std.proofs.Common.{arith}
use Rattle.std.proofs.lemmas.Result.{err_from_is_err_and}
use Rattle.sample.specs.Answer.{area_short, refused, no_production}
use Rattle.sample.proofs.sample.Goals as goal

pub returns-then-area-lt255 : goal.returns-then-area-lt255
returns-then-area-lt255 c = area_short c.if-area-lt255.true

pub returns-in_err-check : goal.returns-in_err-check
returns-in_err-check c =
    let p = err_from_is_err_and c.from_residual.result c.from_residual.ensures.1 in
    rw (p.1, p.2) (refused c.if-area-lt255.false c.in_err-check.ensures)

pub returns-then-from-r : goal.returns-then-from-r
returns-then-from-r c = no_production c.if-area-lt255.false c.in_ok-check.ensures (omega arith)
