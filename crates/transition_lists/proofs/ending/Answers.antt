use Rattle.std.proofs.Common.{sym, ◌∙◌}
use Rattle.transition_lists.proofs.WordLaws.{ending_none, ending_one}
use Rattle.transition_lists.proofs.ending.Goals as goal

pub returns-then-leaves-ne0 : goal.returns-then-leaves-ne0
returns-then-leaves-ne0 c = ending_none _ _ _ (λ z. c.if-leaves-ne0.true (c.leaves.ensures ∙ z.state))

pub returns-then-nonterminal-from : goal.returns-then-nonterminal-from
returns-then-nonterminal-from c =
    ending_none _ _ _ (λ z. c.if-nonterminal-from.true (c.nonterminal.ensures ∙ z.start ∙ sym (c.from.ensures ∙ c.terminals.ensures)))

pub returns : goal.returns
returns c =
    ending_one _ _ _ (record {
      state = sym c.leaves.ensures ∙ c.if-leaves-ne0.false;
      start = sym c.nonterminal.ensures ∙ c.if-nonterminal-from.false ∙ c.from.ensures ∙ c.terminals.ensures;
    })
