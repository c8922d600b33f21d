-- A table is written as one, a refusal by its numbers.
use Rattle.std.proofs.Common.{ap, get_or, Result, Err}
use Rattle.generator.specs.declared.Refusal.{Refusal}
use Rattle.generator.specs.Answer.{numbers}
use Rattle.generator.proofs.Answers.{only_table}
use Rattle.response.proofs.Texts.{prints_table, prints_refusal}
use Rattle.response.proofs.respond.Goals as goal

pub returns-in-Ok-clause-result_after : goal.returns-in-Ok-clause-result_after
returns-in-Ok-clause-result_after c =
    prints_table _ _ _ _ _ (ap (λ (a : Result (Unit {0}) Refusal). get_or (numbers a) 0 0) c.in-Ok.is) c.table.ensures.result_after

pub returns-in-Err-clause-result_after : goal.returns-in-Err-clause-result_after
returns-in-Err-clause-result_after c =
    rw c.in-Err.is (prints_refusal _ _ _ _ _ (λ z. (let h = only_table (Err c.in-Err.refused) z in cc)) c.refusal.ensures.result_after)
