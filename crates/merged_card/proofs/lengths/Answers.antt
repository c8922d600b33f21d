-- `lengths` gives the pieces of the lengths.
use Rattle.merged_card.proofs.PartLaws.{lengths_given}
use Rattle.merged_card.proofs.lengths.Goals as goal

pub returns : goal.returns
returns c = lengths_given _ _ c.requires c.length_part.ensures c.length_part-2.ensures
