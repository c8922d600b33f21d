use Rattle.sample.proofs.RoundLaws.{no_words}
use Rattle.sample.proofs.LeastLaws.{finds}
use Rattle.sample.proofs.find.Goals as goal

pub settle-requires : goal.settle-requires
settle-requires c = (c.requires.0, no_words _ _)

pub returns : goal.returns
returns c = finds _ _ _ _ c.requires.0 c.requires.1 c.settle.ensures.0 c.settle.ensures.1 _ c.take.ensures
