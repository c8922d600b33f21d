use Rattle.std.proofs.Common.{◌≡◌, arith, rules}
use Rattle.items.specs.Item.{set_size}
use Rattle.items.proofs.ShiftLaws.{shifted}
use Rattle.items.proofs.advance.Goals as goal

pub returns : goal.returns
returns c =
    let e : c.loop-i.i ≡ set_size = omega arith in
    shifted c.args.s c.args.m _ (λ k. search rules) _ (rw e at c.loop-i.invariant)
