use Rattle.std.proofs.Common.{arith, refl, ◌≡◌}
use native.Mathlib.Nat.{add-zero}
use lib.ListN.{length-set}
use Rattle.grammar.proofs.CardLaws.{well_formed}
use Rattle.closures.proofs.NumberLaws.{bounds}
use Rattle.closures.proofs.AreaLaws.{kept_same, kept_set}
use Rattle.closures.proofs.FillLaws.{production_more, production_end}
use Rattle.closures.proofs.fill_production.Goals as goal

pub loop-i-init : goal.loop-i-init
loop-i-init c =
    let wf = well_formed c.args.c.now c.requires.0 in
    let b = bounds c.args.c.now wf c.args.r c.requires.1 in
    (rw (add-zero c.args.f) c.requires.6, refl, kept_same _ _, omega arith, omega arith, c.requires.5)

pub loop-i-preserved : goal.loop-i-preserved
loop-i-preserved c = (
  production_more _ _ _ _ _ _ _ _ _ _ _ c.requires.4 c.requires.3 c.requires.2 c.requires.1 c.loop-i-test.true c.from-in-loop-i-2.ensures c.from.ensures c.symbol.ensures c.from-in-loop-i.ensures
      (omega (arith, c.from-in-loop-i-2.ensures)) c.loop-i.invariant.0,
  simp length-set c.loop-i.invariant.1,
  kept_set _ _ _ _ _ c.loop-i.invariant.2 (omega (arith, c.from-in-loop-i-2.ensures)),
  c.loop-i.invariant.3,
  c.loop-i.invariant.4,
  simp length-set c.loop-i.invariant.5,
)

pub returns : goal.returns
returns c =
    let e : c.loop-i.i ≡ c.args.n = omega arith in
    (production_end _ _ _ _ _ _ _ c.requires.4 c.requires.2 c.requires.1 e c.from-2.ensures (omega (arith, c.from-2.ensures)) c.loop-i.invariant.0, kept_set _ _ _ _ _ c.loop-i.invariant.2 (omega (arith, c.from-2.ensures)))
