-- `lefts` gives the pieces of the left sides.
use Rattle.merged_card.proofs.PartLaws.{lefts_given}
use Rattle.merged_card.proofs.lefts.Goals as goal

pub returns : goal.returns
returns c = lefts_given _ _ c.requires c.terminals-t.ensures c.behind-k.ensures c.left_part.ensures c.left_part-2.ensures
