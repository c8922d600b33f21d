use Rattle.std.proofs.Common.{rules, arith, ◌≡◌, length}
use Rattle.items.specs.Item.{set_size}
use Rattle.closures.specs.Areas.{Added}
use Rattle.closures.proofs.AreaLaws.{added}
use Rattle.states.specs.Places.{found, fresh, crowded}
use Rattle.states.proofs.place.Goals as goal

pub returns-in-Some : goal.returns-in-Some
returns-in-Some c = found c.in-Some.q c.in-Some.ensures.most c.in-Some.ensures.here

pub returns-then-n-lt256 : goal.returns-then-n-lt256
returns-then-n-lt256 c =
    let n : length c.args.s ≡ set_size = search rules in
    let ad : Added c.args.z.now c.args.n c.args.s c.store.new.d = rw c.store.ensures (added c.args.z.now c.args.n c.args.s n (omega (arith, c.requires.2))) in
    fresh c.store.new.d c.if-n-lt256.true (λ q h. c.in_default.ensures q h) ad

pub returns : goal.returns
returns c = crowded (omega arith) (λ q h. c.in_default.ensures q h)
