use Rattle.transitions.proofs.WriteLaws.{word_of}
use Rattle.transitions.proofs.predecessors.Goals as goal

pub returns : goal.returns
returns c = word_of _ _ _ _ c.pair.ensures
