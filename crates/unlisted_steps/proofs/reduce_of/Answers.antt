use mathlib.Core.Path.{sym}
use Rattle.unlisted_steps.proofs.Area.{popped}
use Rattle.unlisted_steps.proofs.Outcomes.{under_in, pops_bottom, no_goto, goto_shifts}
use Rattle.unlisted_steps.proofs.reduce_of.Goals as goal

pub returns-then-s-n : goal.returns-then-s-n
returns-then-s-n c = λ q qs h. pops_bottom h _ _ (sym c.requires.3) c.if-s-n.true

pub goto-q-requires : goal.goto-q-requires
goto-q-requires c = let p = c.requires in (p.0, under_in p.1 c.if-s-n.false, p.2)

pub returns-then-q-eq0 : goal.returns-then-q-eq0
returns-then-q-eq0 c =
    λ q qs h. no_goto h _ _ (sym c.requires.3) c.if-s-n.false c.goto-q.ensures.0 c.if-q-eq0.true

pub returns : goal.returns
returns c =
    let g = c.goto-q.ensures in
    λ q qs h.
    goto_shifts h _ _ (sym c.requires.3) c.if-s-n.false g.0 c.if-q-eq0.false (c.shift.ensures _ _ _ (popped h c.if-s-n.false _) g.1)
