-- The first line of a row has the state, the others are blank.
use Rattle.pages.proofs.Writing.{opens_state, opens_blank}
use Rattle.pages.proofs.open_line.Goals as goal

pub returns-then-i-eq0 : goal.returns-then-i-eq0
returns-then-i-eq0 c = rw (opens_state c.args.q _ c.if-i-eq0.true) c.right.ensures

pub returns-else-i-eq0 : goal.returns-else-i-eq0
returns-else-i-eq0 c = rw (opens_blank c.args.q _ c.if-i-eq0.false) c.spaces.ensures
