use Rattle.std.proofs.Common.{arith}
use Rattle.grammar.proofs.CardLaws.{well_formed, formed}
use Rattle.sample_words.proofs.left_key.Goals as goal

pub overflow_sub-left : goal.overflow_sub-left
overflow_sub-left c = omega (arith, (formed _ (well_formed _ c.requires.0)).left_nonterminal _ c.requires.1)

pub key-requires : goal.key-requires
key-requires c =
    let w = well_formed _ c.requires.0 in
    omega (arith, w.limits.nonterminals_to, (formed _ w).left_below _ c.requires.1)
