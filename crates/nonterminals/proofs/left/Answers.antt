use Rattle.grammar.proofs.CardLaws.{well_formed}
use Rattle.nonterminals.proofs.left.Goals as goal

pub word-requires : goal.word-requires
word-requires c = (c.requires.0, rw c.left.ensures ((well_formed _ c.requires.0).lefts c.args.r c.requires.1).1)
