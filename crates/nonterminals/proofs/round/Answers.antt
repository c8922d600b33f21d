use Rattle.std.proofs.Common.{◌<◌, get_or, arith}
use borrow.Author.Tests.{eq-eqb, eqb-true}
use Rattle.sets.proofs.HasLaws.{within_test}
use Rattle.grammar.specs.Card.{productions}
use Rattle.grammar.proofs.CardLaws.{well_formed}
use Rattle.nonterminals.proofs.GatherLaws.{round_adds, round_keeps}
use Rattle.nonterminals.proofs.round.Goals as goal
use Rattle.nonterminals.proofs.round.Goals.{then-needs-r, else-needs-r}

pub bounds-needs-r : goal.bounds-needs-r
bounds-needs-r g c = omega (arith, (well_formed _ c.requires.0).limits.productions_to)

pub bounds-needs-r-in-loop-r : goal.bounds-needs-r-in-loop-r
bounds-needs-r-in-loop-r g c = omega (arith, (well_formed _ c.requires.0).limits.productions_to)

pub bounds-gives-r : goal.bounds-gives-r
bounds-gives-r g c = omega (arith, (well_formed _ c.requires.0).limits.productions_to)

pub loop-r-preserved : goal.loop-r-preserved
loop-r-preserved g c =
    let below : c.loop-r.r < productions c.args.c.now = omega arith in
    let needs = c.requires.1.words c.loop-r.r below in
    let gives = c.requires.2.words c.loop-r.r below in
    let t = c.loop-r.t in
    let test = within_test (get_or c.args.needs.now c.loop-r.r 0) t in
    elim c.if-needs-r.branch [
      | then-needs-r w ↦ rw (w.t-is, gives) (round_adds _ c.requires.0 _ _ c.loop-r.invariant below (rw needs at (test.yes (eq-eqb _ _ w.if-needs-r.true))))
      | else-needs-r w ↦ rw w.t-is (round_keeps _ c.requires.0 _ _ c.loop-r.invariant (λ i. w.if-needs-r.false (eqb-true _ _ (test.so (rw needs i)))))
    ]
