use Rattle.merge.proofs.AnswerLaws.{first_told, second_told, passed}
use Rattle.merge.proofs.judge.Goals as goal

pub returns-in_err-map_err : goal.returns-in_err-map_err
returns-in_err-map_err c = first_told _ _ _ _ _ _ c.in_err-map_err.ensures.cases c.check.ensures c.from_residual.ensures.1

pub returns-in_err-map_err-2 : goal.returns-in_err-map_err-2
returns-in_err-map_err-2 c =
    second_told _ _ _ _ _ _ c.in_err-map_err-2.ensures.cases (passed _ c.in_ok-map_err.ensures.variant c.check.ensures) c.check-2.ensures c.from_residual-in_err-map_err-2.ensures.1
