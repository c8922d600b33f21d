use Rattle.std.proofs.Common.{arith, ◌+◌, ◌<◌, ◌∙◌, sym, get_or}
use Rattle.grammar.proofs.CardLaws.{well_formed}
use Rattle.grammar.specs.Card.{terminals, nonterminals}
use Rattle.closures.proofs.NumberLaws.{after_most}
use Rattle.closures.proofs.MaskLaws.{marked_more}
use Rattle.closures.proofs.fill_masks.Goals as goal

pub bounds-z-at : goal.bounds-z-at
bounds-z-at c =
    let wf = well_formed c.args.c.now c.requires.0 in
    let l : get_or c.args.w.now c.loop-i.i 0 < terminals c.args.c.now + nonterminals c.args.c.now = rw (c.requires.2.filled c.loop-i.i c.loop-i-test.true) (after_most c.args.c.now wf c.loop-i.i) in
    omega (arith, wf.limits.terminals_to, wf.limits.nonterminals_to)

pub bounds-z-at-in-loop-i : goal.bounds-z-at-in-loop-i
bounds-z-at-in-loop-i c =
    let wf = well_formed c.args.c.now c.requires.0 in
    let l : get_or c.args.w.now c.loop-i.i 0 < terminals c.args.c.now + nonterminals c.args.c.now = rw (c.requires.2.filled c.loop-i.i c.loop-i-test.true) (after_most c.args.c.now wf c.loop-i.i) in
    omega (arith, wf.limits.terminals_to, wf.limits.nonterminals_to)

pub loop-i-preserved : goal.loop-i-preserved
loop-i-preserved c =
    let wf = well_formed c.args.c.now c.requires.0 in
    let l : get_or c.args.w.now c.loop-i.i 0 < terminals c.args.c.now + nonterminals c.args.c.now = rw (c.requires.2.filled c.loop-i.i c.loop-i-test.true) (after_most c.args.c.now wf c.loop-i.i) in
    let m = marked_more _ _ _ _ _ c.loop-i.invariant.0 c.loop-i.invariant.1 (omega (arith, wf.limits.terminals_to, wf.limits.nonterminals_to)) c.loop-i-test.true (c.requires.2.filled _ c.loop-i-test.true) l in
    (m, rw (c.loop-i.invariant.0.wide ∙ sym m.wide) at c.loop-i.invariant.1)
