use Rattle.std.proofs.Common.{◌≡◌, length, rules, arith}
use Rattle.sets.proofs.WordLaws.{item_above, found_here, none_here, found_in, none_in, none_after}
use Rattle.sets.proofs.words.next.Goals as goal

pub returns-then-k : goal.returns-then-k
returns-then-k g c = let n : length c.args.s ≡ g.row.N = search rules in λ k h. item_above c.args.s k (omega (arith, c.if-k.true))

pub returns-then-w-ne0 : goal.returns-then-w-ne0
returns-then-w-ne0 g c = found_here c.args.s c.args.from (search rules) c.if-w-ne0.true

pub loop-j-init : goal.loop-j-init
loop-j-init g c = (omega arith, none_here c.args.s c.args.from c.if-w-ne0.false)

pub returns-then-v-ne0 : goal.returns-then-v-ne0
returns-then-v-ne0 g c = found_in c.args.s c.args.from c.loop-j.j c.loop-j.invariant.0 c.loop-j.invariant.1 (search rules) c.if-v-ne0.true

pub loop-j-preserved : goal.loop-j-preserved
loop-j-preserved g c = (omega arith, none_in c.args.s c.args.from c.loop-j.j c.loop-j.invariant.0 c.loop-j.invariant.1 c.if-v-ne0.false)

pub returns : goal.returns
returns g c =
    let n : length c.args.s ≡ g.row.N = search rules in
    none_after c.args.s c.args.from c.loop-j.j c.loop-j.invariant.0 c.loop-j.invariant.1 (omega arith)
