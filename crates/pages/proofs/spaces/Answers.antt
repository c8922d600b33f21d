use Rattle.decimal.proofs.Written.{wrote_none}
use Rattle.pages.proofs.Writing.{blanks_next}
use Rattle.pages.proofs.spaces.Goals as goal

pub loop-i-init : goal.loop-i-init
loop-i-init c = wrote_none _

pub loop-i-preserved : goal.loop-i-preserved
loop-i-preserved c = blanks_next _ c.loop-i.invariant c.put.ensures
