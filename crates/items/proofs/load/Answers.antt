-- Word after word is that of the place.
use Rattle.std.proofs.Common.{arith, refl, sym, ◌∙◌, ◌≡◌}
use lib.ListN.{length-set}
use lib.Seq.{take_all}
use Rattle.items.specs.Item.{set_size}
use Rattle.items.proofs.AreaLaws.{part_more}
use Rattle.items.proofs.load.Goals as goal

pub loop-i-init : goal.loop-i-init
loop-i-init c = (refl, refl)

pub loop-i-preserved : goal.loop-i-preserved
loop-i-preserved c = (
  length-set c.loop-i.t c.loop-i.i _ ∙ c.loop-i.invariant.0,
  part_more _ _ c.args.at c.loop-i.i (omega (arith, c.loop-i-test.true, c.loop-i.invariant.0)) (omega (arith, c.loop-i-test.true, c.requires)) c.loop-i.invariant.1,
)

pub returns : goal.returns
returns c =
    let e : c.loop-i.i ≡ set_size = omega (arith, c.loop-i-test.false) in
    sym (take_all set_size c.loop-i.t (omega (arith, c.loop-i.invariant.0))) ∙ rw e at c.loop-i.invariant.1
