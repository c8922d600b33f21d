use Rattle.machine.proofs.Explorations.{input_front}
use Rattle.parser.proofs.Whole.{told_at}
use Rattle.parser.proofs.explored.Goals as goal

pub explore_from-e-requires : goal.explore_from-e-requires
explore_from-e-requires c = (c.requires.0, c.requires.1, input_front _ _ _ c.requires.4 c.requires.2, c.requires.3, c.requires.5 _ c.requires.4)

pub returns : goal.returns
returns c = told_at c.explore_from-e.result c.explore_from-e.ensures c.told.ensures
