use Rattle.parser.proofs.Readings.{terminals_small, ready_restricted, reads_restricted}
use Rattle.parser.proofs.read_restricted.Goals as goal

pub first_closed-n-requires : goal.first_closed-n-requires
first_closed-n-requires c = terminals_small _ _ _ _ _ c.requires

pub read-requires : goal.read-requires
read-requires c = ready_restricted _ _ _ _ _ _ c.requires c.first_closed-n.ensures

pub returns : goal.returns
returns c = reads_restricted _ _ _ _ _ _ _ c.requires _ c.first_closed-n.ensures c.read.ensures
