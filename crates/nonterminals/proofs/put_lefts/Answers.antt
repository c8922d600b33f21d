use Rattle.std.proofs.Common.{arith}
use Rattle.grammar.proofs.CardLaws.{well_formed}
use Rattle.nonterminals.proofs.WordLaws.{words_more}
use Rattle.nonterminals.proofs.put_lefts.Goals as goal

pub bounds-v-from : goal.bounds-v-from
bounds-v-from c = omega (arith, (well_formed _ c.requires).limits.productions_to)

pub loop-r-preserved : goal.loop-r-preserved
loop-r-preserved c =
    words_more _ _ _ c.loop-r.invariant (omega (arith, (well_formed _ c.requires).limits.productions_to)) _ _ c.from.ensures c.left.ensures
