use Rattle.std.proofs.Common.{arith, refl, sym, ◌∙◌, ◌≡◌, ◌-◌, ◌<◌}
use Rattle.grammar.proofs.CardLaws.{well_formed}
use Rattle.grammar.specs.Card.{terminals, productions, left_of, start_of}
use Rattle.closures.specs.Numbers.{first_of}
use Rattle.closures.proofs.NumberLaws.{bounds}
use Rattle.closures.proofs.FillLaws.{first_after}
use Rattle.closures.proofs.LeadLaws.{firsts_start, firsts_skip, firsts_take}
use Rattle.closures.proofs.firsts.Goals.{then-has, else-has}
use Rattle.closures.proofs.firsts.Goals as goal

pub loop-r-init : goal.loop-r-init
unfolding first_of start_of
loop-r-init c = (firsts_start _ _ _ c.empty-s.ensures, refl)

pub overflow_sub-left : goal.overflow_sub-left
overflow_sub-left c =
    let wf = well_formed c.args.c.now c.requires in
    let h : c.loop-r.r < productions c.args.c.now = omega (arith, c.productions-p.ensures) in
    let b = bounds c.args.c.now wf c.loop-r.r h in
    omega (arith, c.left.ensures, c.terminals-t.ensures)

pub with-u-requires : goal.with-u-requires
with-u-requires c =
    let wf = well_formed c.args.c.now c.requires in
    let h : c.loop-r.r < productions c.args.c.now = omega (arith, c.productions-p.ensures) in
    let b = bounds c.args.c.now wf c.loop-r.r h in
    omega arith

pub overflow_add-f-in-loop-r : goal.overflow_add-f-in-loop-r
overflow_add-f-in-loop-r c =
    let wf = well_formed c.args.c.now c.requires in
    let h : c.loop-r.r < productions c.args.c.now = omega (arith, c.productions-p.ensures) in
    let b = bounds c.args.c.now wf c.loop-r.r h in
    omega (arith, c.from-in-loop-r.ensures, c.length.ensures)

pub loop-r-preserved : goal.loop-r-preserved
loop-r-preserved c =
    let e : left_of c.args.c.now c.loop-r.r - terminals c.args.c.now ≡ c.from.result = omega (arith, c.from.ensures, c.left.ensures, c.terminals-t.ensures) in (
      elim c.if-has.branch [
        | then-has w ↦ rw w.s-is (firsts_take _ _ _ _ _ c.loop-r.invariant.0 (rw e (sym c.has.ensures ∙ w.if-has.true)) (rw (← c.loop-r.invariant.1) w.with-u.ensures))
        | else-has w ↦ rw w.s-is (firsts_skip _ _ _ _ c.loop-r.invariant.0 (rw e (sym c.has.ensures ∙ w.if-has.false)))
      ],
      first_after c.args.c.now c.loop-r.r c.loop-r.f c.length.result c.from-in-loop-r.result c.loop-r.invariant.1 c.length.ensures c.from-in-loop-r.ensures,
    )
