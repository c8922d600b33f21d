use Rattle.std.proofs.Common.{sym, ◌∙◌, arith}
use Rattle.merge.specs.Answer.{terminals_differ, too_large}
use Rattle.merge.proofs.AnswerLaws.{joinable, short, area_told, merged_told}
use Rattle.merge.proofs.judge_passed.Goals as goal

pub returns-then-terminals : goal.returns-then-terminals
returns-then-terminals c = terminals_differ c.requires.0 c.requires.1 (λ e. c.if-terminals.true (c.terminals.ensures ∙ e ∙ sym c.terminals-2.ensures))

pub returns-then-not-sizes_ok : goal.returns-then-not-sizes_ok
returns-then-not-sizes_ok c = too_large (joinable c.requires c.terminals.ensures c.terminals-2.ensures c.if-terminals.false) (sym c.sizes_ok.ensures ∙ c.if-not-sizes_ok.true)

pub returns-then-n-room : goal.returns-then-n-room
returns-then-n-room c =
    area_told _ _ _ (joinable c.requires c.terminals.ensures c.terminals-2.ensures c.if-terminals.false)
    (sym c.sizes_ok.ensures ∙ c.if-not-sizes_ok.false) c.if-n-room.true

pub overflow_cast-result : goal.overflow_cast-result
overflow_cast-result c = omega (arith, short _ _ 0 (joinable c.requires c.terminals.ensures c.terminals-2.ensures c.if-terminals.false))

pub returns : goal.returns
returns c =
    merged_told _ _ _ (joinable c.requires c.terminals.ensures c.terminals-2.ensures c.if-terminals.false)
    (sym c.sizes_ok.ensures ∙ c.if-not-sizes_ok.false) (omega arith)
