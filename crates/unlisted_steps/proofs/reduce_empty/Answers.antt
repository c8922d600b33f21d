use Rattle.unlisted_steps.proofs.Outcomes.{empty_none, empty_shifts}
use Rattle.unlisted_steps.proofs.reduce_empty.Goals as goal

pub returns-then-q-eq0 : goal.returns-then-q-eq0
returns-then-q-eq0 c = λ q qs h. empty_none h _ c.requires.3 c.goto-q.ensures.0 c.if-q-eq0.true

pub returns : goal.returns
returns c =
    let g = c.goto-q.ensures in
    λ q qs h. empty_shifts h _ c.requires.3 g.0 c.if-q-eq0.false (c.shift.ensures _ _ _ h g.1)
