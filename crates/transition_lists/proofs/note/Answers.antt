use Rattle.transition_lists.proofs.StoreLaws.{noted}
use Rattle.transition_lists.proofs.note.Goals as goal

pub returns : goal.returns
returns c = noted _ _ _ _ c.requires.1 c.put.ensures c.precede.ensures
