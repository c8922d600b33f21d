use Rattle.std.proofs.Common.{rules, arith, ◌∙◌, ◌≡◌, ◌+◌, ◌<◌, length, get_or}
use native.Mathlib.Nat.{le_refl}
use Rattle.grammar.proofs.CardLaws.{well_formed}
use Rattle.grammar.specs.Card.{terminals, nonterminals}
use Rattle.items.specs.Item.{set_size, item_limit}
use Rattle.closures.proofs.NumberLaws.{after_most}
use Rattle.closures.proofs.ClosureLaws.{closing_start, closing_next, closing_skip, closing_take, closing_end}
use Rattle.closures.proofs.closure.Goals as goal
use Rattle.closures.proofs.closure.Goals.{then-t-x, else-t-x}

pub loop-i-init : goal.loop-i-init
loop-i-init c = (closing_start c.args.c.now c.args.z.now c.args.s, omega arith)

pub load-requires : goal.load-requires
load-requires c =
    let wf = well_formed c.args.c.now c.requires.0 in
    let n : length c.args.s ≡ set_size = search rules in
    let h : c.in-Some.i < item_limit = omega (arith, c.in-Some.ensures.within) in
    let l : get_or c.args.w.now c.in-Some.i 0 < terminals c.args.c.now + nonterminals c.args.c.now = rw (c.requires.2.filled c.in-Some.i h) (after_most c.args.c.now wf c.in-Some.i) in
    omega (arith, wf.limits.nonterminals_to, c.from-t.ensures, c.terminals.ensures, c.requires.3.room)

pub loop-i-preserved : goal.loop-i-preserved
loop-i-preserved c =
    let wf = well_formed c.args.c.now c.requires.0 in
    let n : length c.args.s ≡ set_size = search rules in
    let h : c.in-Some.i < item_limit = omega (arith, c.in-Some.ensures.within) in
    let l : get_or c.args.w.now c.in-Some.i 0 < terminals c.args.c.now + nonterminals c.args.c.now = rw (c.requires.2.filled c.in-Some.i h) (after_most c.args.c.now wf c.in-Some.i) in
    let t : c.from-t.result ≡ terminals c.args.c.now = c.from-t.ensures ∙ c.terminals.ensures in
    let q = closing_next c.args.c.now c.args.z.now c.args.s c.loop-i.from c.in-Some.i c.loop-i.r c.loop-i.invariant.0 c.in-Some.ensures.gap in (
      elim c.if-t-x.branch [
        | then-t-x w ↦
            rw w.r-is (closing_take _ _ _ _ _ _ _ _ _ c.requires.3.closures q c.in-Some.ensures.here (c.requires.2.filled _ h) t w.if-t-x.true (omega (arith, t, l, w.if-t-x.true)) w.load.ensures w.join-u.ensures)
        | else-t-x w ↦ rw w.r-is (closing_skip _ _ _ _ _ _ _ q (c.requires.2.filled _ h) t w.if-t-x.false)
      ],
      omega arith,
    )

pub returns : goal.returns
returns c =
    let wf = well_formed c.args.c.now c.requires.0 in
    let q = closing_next c.args.c.now c.args.z.now c.args.s c.loop-i.from item_limit c.loop-i.r c.loop-i.invariant.0 (λ k h l. c.in_default.ensures k h) in
    closing_end _ _ _ _ _ wf c.requires.3.closures q (le_refl item_limit)
