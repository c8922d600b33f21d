use Rattle.lookaheads.proofs.LookLaws.{accepts_zero, accepts_one, accepts_other}
use Rattle.lookaheads.proofs.acceptance.Goals as goal

pub returns-then-q-eq0 : goal.returns-then-q-eq0
returns-then-q-eq0 c = accepts_zero _ _ c.if-q-eq0.true

pub returns-then-a-q : goal.returns-then-a-q
returns-then-a-q c = accepts_one _ _ c.if-q-eq0.false c.if-a-q.true

pub returns-else-a-q : goal.returns-else-a-q
returns-else-a-q c = accepts_other _ _ c.if-a-q.false
