use Rattle.std.proofs.Common.{sym, ◌∙◌}
use Rattle.card.proofs.PassLaws.{fault_7, fault_8, fault_9, no_fault}
use Rattle.card.proofs.sides_fault.Goals as goal

pub returns-then-not-lefts_ok : goal.returns-then-not-lefts_ok
returns-then-not-lefts_ok c = fault_7 _ c.requires (sym c.lefts_ok.ensures ∙ c.if-not-lefts_ok.true)

pub returns-then-end-from : goal.returns-then-end-from
returns-then-end-from c =
    fault_8 _ c.requires (sym c.lefts_ok.ensures ∙ c.if-not-lefts_ok.false) c.pass-end.result c.pass-end.ensures
    (λ e. c.if-end-from.true (e ∙ sym (c.from.ensures ∙ c.symbols.ensures)))

pub returns-then-end : goal.returns-then-end
returns-then-end c =
    fault_9 _ c.requires (sym c.lefts_ok.ensures ∙ c.if-not-lefts_ok.false) c.pass-end.result c.pass-end.ensures
    (c.if-end-from.false ∙ c.from.ensures ∙ c.symbols.ensures) c.if-end.true

pub returns : goal.returns
returns c =
    no_fault _ c.requires (sym c.lefts_ok.ensures ∙ c.if-not-lefts_ok.false) c.pass-end.result c.pass-end.ensures
    (c.if-end-from.false ∙ c.from.ensures ∙ c.symbols.ensures) c.if-end.false
