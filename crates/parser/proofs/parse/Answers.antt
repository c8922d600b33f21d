use Rattle.machine.proofs.RestrictedLaws.{restricted_none}
use Rattle.parser.proofs.parse.Goals as goal

pub returns : goal.returns
returns c = rw (restricted_none _ _ _ _ _ _) at c.parse_restricted.ensures
