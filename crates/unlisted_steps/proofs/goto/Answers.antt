use Rattle.machine.proofs.Checked.{left_within}
use Rattle.unlisted_steps.proofs.Outcomes.{goto_in, goto_is}
use Rattle.unlisted_steps.proofs.goto.Goals as goal

pub left-left-requires : goal.left-left-requires
left-left-requires c = let p = c.requires in left_within p.0.checked _ p.2

pub cell_at-requires : goal.cell_at-requires
cell_at-requires c = let p = c.requires in goto_in p.0 p.1 p.2 c.left-left.ensures

pub returns : goal.returns
returns c = let p = c.requires in goto_is p.0 p.1 p.2 c.left-left.ensures c.cell_at.ensures
