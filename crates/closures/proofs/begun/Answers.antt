use Rattle.std.proofs.Common.{arith, refl, ◌∙◌, ◌≡◌, ◌-◌, ◌<◌}
use Rattle.grammar.proofs.CardLaws.{well_formed}
use Rattle.grammar.specs.Card.{terminals, productions, left_of, start_of}
use Rattle.closures.specs.Numbers.{first_of}
use Rattle.closures.proofs.NumberLaws.{bounds}
use Rattle.closures.proofs.FillLaws.{first_after, first_filled}
use Rattle.closures.proofs.LeadLaws.{begun_start, begun_skip, begun_take}
use Rattle.closures.proofs.begun.Goals.{then-t-x, else-t-x}
use Rattle.closures.proofs.begun.Goals as goal

pub loop-r-init : goal.loop-r-init
unfolding first_of start_of
loop-r-init c = (begun_start c.args.c.now, refl)

pub offset_bounds-w-f : goal.offset_bounds-w-f
offset_bounds-w-f c =
    let wf = well_formed c.args.c.now c.requires.0 in
    let h : c.loop-r.r < productions c.args.c.now = omega (arith, c.productions-p.ensures) in
    let b = bounds c.args.c.now wf c.loop-r.r h in
    omega arith

pub bounds-w-f : goal.bounds-w-f
bounds-w-f c =
    let wf = well_formed c.args.c.now c.requires.0 in
    let h : c.loop-r.r < productions c.args.c.now = omega (arith, c.productions-p.ensures) in
    let b = bounds c.args.c.now wf c.loop-r.r h in
    omega (arith, c.requires.1)

pub overflow_sub-j : goal.overflow_sub-j
overflow_sub-j c =
    let wf = well_formed c.args.c.now c.requires.0 in
    let h : c.loop-r.r < productions c.args.c.now = omega (arith, c.productions-p.ensures) in
    let b = bounds c.args.c.now wf c.loop-r.r h in
    omega (arith, c.from.ensures, c.left.ensures, c.from-t.ensures, c.terminals.ensures)

pub overflow_shl-b : goal.overflow_shl-b
overflow_shl-b c =
    let wf = well_formed c.args.c.now c.requires.0 in
    let h : c.loop-r.r < productions c.args.c.now = omega (arith, c.productions-p.ensures) in
    let b = bounds c.args.c.now wf c.loop-r.r h in
    let x = first_filled c.args.c.now c.args.w.now c.loop-r.r c.loop-r.f b c.requires.2 c.loop-r.invariant.1 in
    omega (arith, c.from-t.ensures, c.terminals.ensures)

pub bounds-b-j : goal.bounds-b-j
bounds-b-j c =
    let wf = well_formed c.args.c.now c.requires.0 in
    let h : c.loop-r.r < productions c.args.c.now = omega (arith, c.productions-p.ensures) in
    let b = bounds c.args.c.now wf c.loop-r.r h in
    omega (arith, c.from.ensures, c.left.ensures, c.from-t.ensures, c.terminals.ensures)

pub bounds-b-j-then-t-x : goal.bounds-b-j-then-t-x
bounds-b-j-then-t-x c =
    let wf = well_formed c.args.c.now c.requires.0 in
    let h : c.loop-r.r < productions c.args.c.now = omega (arith, c.productions-p.ensures) in
    let b = bounds c.args.c.now wf c.loop-r.r h in
    omega (arith, c.from.ensures, c.left.ensures, c.from-t.ensures, c.terminals.ensures)

pub overflow_add-f-in-loop-r : goal.overflow_add-f-in-loop-r
overflow_add-f-in-loop-r c =
    let wf = well_formed c.args.c.now c.requires.0 in
    let h : c.loop-r.r < productions c.args.c.now = omega (arith, c.productions-p.ensures) in
    let b = bounds c.args.c.now wf c.loop-r.r h in
    omega (arith, c.from-in-loop-r.ensures, c.length.ensures)

pub loop-r-preserved : goal.loop-r-preserved
loop-r-preserved c =
    let wf = well_formed c.args.c.now c.requires.0 in
    let h : c.loop-r.r < productions c.args.c.now = omega (arith, c.productions-p.ensures) in
    let b = bounds c.args.c.now wf c.loop-r.r h in
    let x = first_filled c.args.c.now c.args.w.now c.loop-r.r c.loop-r.f b c.requires.2 c.loop-r.invariant.1 in
    let t : c.from-t.result ≡ terminals c.args.c.now = c.from-t.ensures ∙ c.terminals.ensures in (
      elim c.if-t-x.branch [
        | then-t-x w ↦
            (let j : w.from.result - c.from-t.result ≡ left_of c.args.c.now c.loop-r.r - terminals c.args.c.now = omega (arith, w.from.ensures, w.left.ensures, t) in
            rw w.b-is (begun_take _ _ _ _ _ _ _ wf c.loop-r.invariant.0 h x t w.if-t-x.true j refl))
        | else-t-x w ↦ rw w.b-is (begun_skip _ _ _ _ _ c.loop-r.invariant.0 x t w.if-t-x.false)
      ],
      first_after c.args.c.now c.loop-r.r c.loop-r.f c.length.result c.from-in-loop-r.result c.loop-r.invariant.1 c.length.ensures c.from-in-loop-r.ensures,
    )
