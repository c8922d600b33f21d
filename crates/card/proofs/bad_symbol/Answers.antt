use Rattle.std.proofs.Common.{◌+◌, not, get_or, rules}
use Rattle.grammar.specs.Card.{is_symbol}
use Rattle.card.proofs.RangeLaws.{any_from_range}
use Rattle.card.proofs.PassLaws.{bad_told}
use Rattle.card.proofs.bad_symbol.Goals as goal

pub returns : goal.returns
returns c =
    bad_told _ _ _ _ _ c.symbols_at-first.ensures.0
    (any_from_range (λ k. not (is_symbol c.args.c.now (get_or c.args.c.now (c.symbols_at-first.result + k) 0))) _ _ _ c.any.ensures.ran (cc) (λ x b q k. search rules))
