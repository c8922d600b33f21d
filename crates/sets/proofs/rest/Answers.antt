use Rattle.std.proofs.Common.{rules}
use Rattle.sets.proofs.HasLaws.{rest_of}
use Rattle.sets.proofs.rest.Goals as goal

pub returns-then-s-eq0 : goal.returns-then-s-eq0
returns-then-s-eq0 c = rw c.if-s-eq0.true (rest_of 64 0 (search rules))

pub returns-else-s-eq0 : goal.returns-else-s-eq0
returns-else-s-eq0 c = rest_of 64 c.args.s (search rules)
