use Rattle.std.proofs.Common.{refl, ap, ◌∙◌, arith}
use Rattle.grammar.specs.Card.{left_of}
use Rattle.grammar.proofs.CardLaws.{well_formed}
use Rattle.relations.proofs.IncludeLaws.{reached_found, reached_skip, reached_link, reached_end, fewer, occurs_at}
use Rattle.relations.proofs.next_includes.Goals as goal

pub overflow_cast-production : goal.overflow_cast-production
overflow_cast-production c =
    let p = c.requires in
    let o = occurs_at _ _ p.nodes c.loop-at.at p.ordered c.loop-at-test.true c.loop-at.invariant.stands.within in
    omega (arith, o.production, (well_formed _ p.ordered.formed).limits.productions_to, c.production.ensures)

pub loop-at-smaller-in_default : goal.loop-at-smaller-in_default
loop-at-smaller-in_default c = fewer _ _ _ _ _ _ _ c.loop-at.invariant _ c.lowest-p.ensures c.if-p-lt256.true _ c.without-rest.ensures

pub loop-at-preserved-in_default : goal.loop-at-preserved-in_default
loop-at-preserved-in_default c =
    reached_skip _ _ _ _ _ _ _ c.loop-at.invariant _ c.lowest-p.ensures c.if-p-lt256.true _ c.without-rest.ensures
    (λ k O. rw (c.from.ensures ∙ c.left-left.ensures ∙ ap (left_of c.args.c.now) c.production.ensures) at (c.in_default.ensures _ k O))

pub returns-in-Some : goal.returns-in-Some
returns-in-Some c = λ k O.
    reached_found _ _ _ _ _ _ _ c.loop-at.invariant _ c.lowest-p.ensures c.if-p-lt256.true _ c.without-rest.ensures _ k O
    (rw (c.from.ensures ∙ c.left-left.ensures ∙ ap (left_of c.args.c.now) c.production.ensures) at (c.in-Some.ensures _ k O)) (omega arith) c.args.cursor refl refl

pub loop-at-smaller : goal.loop-at-smaller
loop-at-smaller c =
    rw c.link-at.ensures (reached_link _ _ _ _ _ _ _ c.loop-at.invariant c.requires.nodes _ _ c.requires.ordered (omega arith) c.lowest-p.ensures c.if-p-lt256.false (rw (c.leaves-q.ensures, c.link-at.ensures) at c.opened-whole.ensures)).0

pub loop-at-preserved : goal.loop-at-preserved
loop-at-preserved c =
    rw c.link-at.ensures (reached_link _ _ _ _ _ _ _ c.loop-at.invariant c.requires.nodes _ _ c.requires.ordered (omega arith) c.lowest-p.ensures c.if-p-lt256.false (rw (c.leaves-q.ensures, c.link-at.ensures) at c.opened-whole.ensures)).1

pub returns : goal.returns
returns c = λ k O y l. reached_end _ _ _ _ _ _ _ c.loop-at.invariant k O c.loop-at-test.false y l.inside l.remaining
