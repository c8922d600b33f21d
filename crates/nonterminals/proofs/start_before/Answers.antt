use Rattle.std.proofs.Common.{arith, add-one}
use Rattle.grammar.specs.Card.{start_of}
use Rattle.nonterminals.proofs.start_before.Goals as goal

pub overflow_sub-result : goal.overflow_sub-result
unfolding start_of
overflow_sub-result c = let e = rw add-one at c.requires in omega (arith, e)

pub returns : goal.returns
unfolding start_of
returns c = let e = rw add-one at c.requires in omega (arith, e)
