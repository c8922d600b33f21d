use Rattle.std.proofs.lemmas.Result.{err_from_is_err_and}
use Rattle.parser.proofs.Readings.{refuses_restricted}
use Rattle.parser.proofs.parse_restricted.Goals as goal

pub returns-in_err-check_restricted : goal.returns-in_err-check_restricted
returns-in_err-check_restricted c =
    let p = err_from_is_err_and c.from_residual.result c.from_residual.ensures.1 in
    rw (p.1, p.2) (refuses_restricted _ _ _ _ _ _ _ _ c.in_err-check_restricted.ensures)
