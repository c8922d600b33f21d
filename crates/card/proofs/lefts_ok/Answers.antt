use Rattle.std.proofs.Common.{rules, sym}
use Rattle.grammar.specs.Card.{left_of, is_nonterminal, lefts_ok}
use Rattle.card.proofs.RangeLaws.{all_from_range}
use Rattle.card.proofs.lefts_ok.Goals as goal

pub returns : goal.returns
unfolding lefts_ok
returns c = rw (sym c.productions.ensures) (all_from_range (λ r. is_nonterminal c.args.c.now (left_of c.args.c.now r)) c.productions.result _ c.all.ensures.ran (cc) (λ x b q k. search rules))
