use Rattle.std.proofs.Common.{arith, refl, ◌∙◌, ◌≡◌, ◌+◌, ◌≤◌, ◌<◌}
use native.Mathlib.Nat.{le_refl, not-suc-le-zero}
use native.Mathlib.Numerals.{add-one}
use Rattle.grammar.proofs.CardLaws.{well_formed}
use Rattle.grammar.specs.Card.{productions, start_of}
use Rattle.items.specs.Item.{item_limit}
use Rattle.closures.specs.Numbers.{first_of}
use Rattle.closures.proofs.NumberLaws.{bounds}
use Rattle.closures.proofs.AreaLaws.{kept_same, kept_set, kept_then}
use Rattle.closures.proofs.FillLaws.{added_first, filled_last}
use Rattle.closures.proofs.fill.Goals as goal

pub loop-r-init : goal.loop-r-init
unfolding first_of start_of
loop-r-init c = (record { filled = λ i h. absurd (not-suc-le-zero h) }, refl, c.requires.1, refl, kept_same _ _)

pub fill_production-requires : goal.fill_production-requires
unfolding first_of
fill_production-requires c =
    (c.requires.0, omega (arith, c.productions-p.ensures), c.length-n.ensures, c.loop-r.invariant.1, rw (c.from.ensures, c.loop-r.invariant.1), c.loop-r.invariant.2, rw (c.from.ensures, c.loop-r.invariant.1) c.loop-r.invariant.0)

pub overflow_add-s : goal.overflow_add-s
overflow_add-s c =
    let wf = well_formed c.args.c.now c.requires.0 in
    let h : c.loop-r.r < productions c.args.c.now = omega (arith, c.productions-p.ensures) in
    let b = bounds c.args.c.now wf c.loop-r.r h in
    omega (arith, c.from-s.ensures, c.length-n.ensures, c.loop-r.invariant.1)

pub loop-r-preserved : goal.loop-r-preserved
unfolding start_of
loop-r-preserved c = (
  rw add-one c.fill_production.ensures.0,
  rw (add-one, c.from-s.ensures, c.length-n.ensures, c.loop-r.invariant.1),
  omega (arith, c.fill_production.auto.w, c.loop-r.invariant.2),
  c.fill_production.auto.w ∙ c.loop-r.invariant.3,
  kept_then c.loop-r.invariant.4 c.fill_production.ensures.1 (le_refl item_limit),
)

pub bounds-w-f : goal.bounds-w-f
bounds-w-f c =
    let wf = well_formed c.args.c.now c.requires.0 in
    let n : c.loop-r.r ≡ c.productions-p.result = omega arith in
    let e : c.loop-r.s + c.from-2.result ≡ c.loop-r.s + c.productions-p.result = omega (arith, c.from-2.ensures) in
    let f = added_first _ _ _ _ _ wf c.productions-p.ensures n c.loop-r.invariant.1 e in
    let l : c.loop-r.s + c.from-2.result ≤ 640 = f.1 in
    omega (arith, c.loop-r.invariant.2)

pub clear-requires : goal.clear-requires
clear-requires c =
    let wf = well_formed c.args.c.now c.requires.0 in
    let n : c.loop-r.r ≡ c.productions-p.result = omega arith in
    let e : c.loop-r.s + c.from-2.result ≡ c.loop-r.s + c.productions-p.result = omega (arith, c.from-2.ensures) in
    filled_last _ _ _ _ _ _ _ wf c.productions-p.ensures n c.loop-r.invariant.1 e (c.from-3.ensures ∙ c.terminals.ensures) c.loop-r.invariant.2 c.loop-r.invariant.0

pub returns : goal.returns
returns c =
    let wf = well_formed c.args.c.now c.requires.0 in
    let n : c.loop-r.r ≡ c.productions-p.result = omega arith in
    let e : c.loop-r.s + c.from-2.result ≡ c.loop-r.s + c.productions-p.result = omega (arith, c.from-2.ensures) in
    let f = added_first _ _ _ _ _ wf c.productions-p.ensures n c.loop-r.invariant.1 e in
    let l : c.loop-r.s + c.from-2.result ≤ 640 = f.1 in
    (c.clear.ensures.0, kept_then (kept_set _ _ _ _ _ c.loop-r.invariant.4 (omega arith)) c.clear.ensures.1 (le_refl item_limit))
