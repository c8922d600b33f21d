use Rattle.std.proofs.Common.{rules, arith, ◌∙◌, ◌≡◌, ◌+◌, ◌<◌, length, get_or}
use lib.ListN.{length-set}
use Rattle.grammar.proofs.CardLaws.{well_formed}
use Rattle.grammar.specs.Card.{terminals, nonterminals}
use Rattle.items.specs.Item.{set_size, item_limit}
use Rattle.sets.proofs.WordLaws.{put_of}
use Rattle.closures.proofs.AfterLaws.{afters_next, afters_more}
use Rattle.closures.proofs.NumberLaws.{after_most}
use Rattle.closures.proofs.afters.Goals as goal

-- the symbol after the dot is one of at most 124
pub bounds-a-x : goal.bounds-a-x
bounds-a-x c =
    let wf = well_formed c.args.c.now c.requires.0 in
    let n : length c.args.s ≡ set_size = search rules in
    let h : c.in-Some.i < item_limit = omega (arith, c.in-Some.ensures.within) in
    let l : get_or c.args.w.now c.in-Some.i 0 < terminals c.args.c.now + nonterminals c.args.c.now = rw (c.requires.2.filled c.in-Some.i h) (after_most c.args.c.now wf c.in-Some.i) in
    omega (arith, wf.limits.terminals_to, wf.limits.nonterminals_to, c.loop-i.invariant.2)

pub bounds-a-x-in-Some : goal.bounds-a-x-in-Some
bounds-a-x-in-Some c =
    let wf = well_formed c.args.c.now c.requires.0 in
    let n : length c.args.s ≡ set_size = search rules in
    let h : c.in-Some.i < item_limit = omega (arith, c.in-Some.ensures.within) in
    let l : get_or c.args.w.now c.in-Some.i 0 < terminals c.args.c.now + nonterminals c.args.c.now = rw (c.requires.2.filled c.in-Some.i h) (after_most c.args.c.now wf c.in-Some.i) in
    omega (arith, wf.limits.terminals_to, wf.limits.nonterminals_to, c.loop-i.invariant.2)

pub loop-i-preserved : goal.loop-i-preserved
loop-i-preserved c =
    let wf = well_formed c.args.c.now c.requires.0 in
    let n : length c.args.s ≡ set_size = search rules in
    let h : c.in-Some.i < item_limit = omega (arith, c.in-Some.ensures.within) in
    let e = c.requires.2.filled c.in-Some.i h in
    let l : get_or c.args.w.now c.in-Some.i 0 < terminals c.args.c.now + nonterminals c.args.c.now = rw e (after_most c.args.c.now wf c.in-Some.i) in (
      afters_more _ _ _ _ _ _ (afters_next _ _ _ _ _ c.loop-i.invariant.0 c.in-Some.ensures) c.in-Some.ensures.here e
          (put_of _ _ (omega (arith, wf.limits.terminals_to, wf.limits.nonterminals_to, c.loop-i.invariant.2))),
      omega arith,
      length-set _ _ _ ∙ c.loop-i.invariant.2,
    )
