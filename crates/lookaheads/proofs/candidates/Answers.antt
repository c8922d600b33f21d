use Rattle.std.proofs.Common.{arith}
use Rattle.grammar.proofs.CardLaws.{well_formed}
use Rattle.lookaheads.proofs.LookLaws.{gathered_end}
use Rattle.lookaheads.proofs.candidates.Goals as goal

pub overflow_add-nonterminal : goal.overflow_add-nonterminal
overflow_add-nonterminal c =
    let o = c.requires.0.2 in
    let w = (well_formed _ o.formed).limits in
    let j = (o.from _ c.loop-i.i c.requires.1 c.loop-i.invariant.from (omega arith)).0 in
    omega (arith, c.nonterminal.ensures, o.high _ j, w.terminals_to, w.nonterminals_to)

pub returns : goal.returns
returns c = λ x k o kept. gathered_end x _ _ k _ _ _ _ o kept c.first-i-end.ensures c.loop-i-test.false c.loop-i.invariant
