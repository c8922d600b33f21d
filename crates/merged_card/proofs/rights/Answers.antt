-- `rights` gives the pieces of the right sides.
use Rattle.merged_card.proofs.PartLaws.{symbols_given}
use Rattle.merged_card.proofs.rights.Goals as goal

pub returns : goal.returns
returns c = symbols_given _ _ c.requires c.terminals-t.ensures c.behind-k.ensures c.symbol_part.ensures c.symbol_part-2.ensures
