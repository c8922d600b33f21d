use Rattle.std.proofs.Common.{rules}
use Rattle.sets.proofs.HasLaws.{lowest_of}
use Rattle.sets.proofs.lowest.Goals as goal

pub returns : goal.returns
returns c = lowest_of 64 c.args.s (search rules)
