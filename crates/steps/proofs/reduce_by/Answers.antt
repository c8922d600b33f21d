use Rattle.machine.proofs.Checked.{length_within}
use Rattle.steps.proofs.reduce_by.Goals as goal

pub length_of-n-requires : goal.length_of-n-requires
length_of-n-requires c = (c.requires.0.shaped, length_within c.requires.0.checked _ c.requires.1)
