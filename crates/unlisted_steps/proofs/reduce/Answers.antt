use Rattle.machine.proofs.Checked.{length_within}
use Rattle.unlisted_steps.proofs.reduce.Goals as goal

pub length_of-n-requires : goal.length_of-n-requires
length_of-n-requires c = let p = c.requires in (p.0.shaped, length_within p.0.checked _ p.2)
