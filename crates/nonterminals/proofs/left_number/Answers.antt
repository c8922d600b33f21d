use Rattle.std.proofs.Common.{arith}
use Rattle.grammar.proofs.CardLaws.{well_formed}
use Rattle.nonterminals.proofs.left_number.Goals as goal

pub overflow_sub-left : goal.overflow_sub-left
overflow_sub-left c = omega (arith, (well_formed _ c.requires.0).lefts c.args.r c.requires.1)

pub returns : goal.returns
returns c =
    let w = well_formed _ c.requires.0 in
    (omega arith, omega (arith, w.lefts c.args.r c.requires.1, w.limits.nonterminals_to))
