use Rattle.std.proofs.Common.{◌∙◌, arith}
use Rattle.lookaheads.proofs.LookLaws.{looked_empty, looked_none, looked_more, looked_end}
use Rattle.lookaheads.proofs.lookahead.Goals as goal

pub returns-then-d-eq0 : goal.returns-then-d-eq0
returns-then-d-eq0 c = λ k o. looked_empty _ _ _ k _ _ _ _ _ (c.from-x.ensures ∙ c.left.ensures) (c.from-d.ensures ∙ c.length.ensures) c.if-d-eq0.true (c.join.ensures _ k o)

pub loop-p-init : goal.loop-p-init
loop-p-init c = (omega arith, λ k o. looked_none _ _ _ k _ _)

pub loop-p-preserved : goal.loop-p-preserved
loop-p-preserved c =
    (omega (arith, c.in-Some.ensures.within), λ k o. looked_more _ _ _ k _ _ _ _ _ c.from.ensures (c.from-d.ensures ∙ c.length.ensures) c.back-left.ensures _ _ (c.loop-p.invariant.1 k o) _ _ _ (c.from-x.ensures ∙ c.left.ensures) c.in-Some.ensures (omega (arith, c.in-Some.ensures.within)) (c.join-s.ensures _ k o))

pub returns : goal.returns
returns c = λ k o. looked_end _ _ _ k _ _ _ _ _ c.from.ensures (c.from-d.ensures ∙ c.length.ensures) c.back-left.ensures _ _ (c.loop-p.invariant.1 k o) o c.in_default.ensures
