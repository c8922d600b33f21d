-- With no table, the maker's refusal; with a table made, what the reader answers is handed on.
use Rattle.std.proofs.Common.{refl}
use Rattle.std.proofs.lemmas.Result.{err_from_is_err_and}
use Rattle.recognizer.proofs.Across.{makes_none, reads, read_refuses}
use Rattle.recognizer.proofs.recognize_restricted.Goals as goal

pub returns-in_err-generate : goal.returns-in_err-generate
returns-in_err-generate c =
    let p = err_from_is_err_and c.from_residual.result c.from_residual.ensures.1 in
    rw (p.1, p.2) (makes_none _ _ _ _ _ _ _ _ _ _ _ c.in_err-generate.ensures)

pub returns-in_err-parse_restricted : goal.returns-in_err-parse_restricted
returns-in_err-parse_restricted c =
    let p = err_from_is_err_and c.from_residual-in_err-parse_restricted.result c.from_residual-in_err-parse_restricted.ensures.1 in
    rw (p.1, p.2) (read_refuses _ _ _ _ c.in_ok-generate.ensures refl _ _ _ _ _ _ c.in_err-parse_restricted.ensures)

pub returns : goal.returns
returns c = reads _ _ _ _ c.in_ok-generate.ensures refl _ _ _ _ _ _ c.in_ok-parse_restricted.ensures
