use Rattle.std.proofs.Common.{rules, ◌≡◌, length, arith}
use Rattle.items.specs.Item.{set_size}
use Rattle.items.proofs.AreaLaws.{not_same, is_same}
use Rattle.items.proofs.is_at.Goals as goal

pub returns-then-d-at : goal.returns-then-d-at
returns-then-d-at c =
    let n : length c.args.s ≡ set_size = search rules in
    not_same c.args.d.now c.args.at c.args.s c.requires n (λ k. search rules) (λ k. search rules) c.loop-i.i c.loop-i-test.true c.if-d-at.true

pub returns : goal.returns
returns c =
    let n : length c.args.s ≡ set_size = search rules in
    is_same c.args.d.now c.args.at c.args.s c.requires n (λ k l. c.loop-i.invariant k (omega (arith, c.loop-i-test.false)))
