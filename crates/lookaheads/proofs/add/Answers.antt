use Rattle.std.proofs.Common.{◌≡◌, length, refl, rules}
use Rattle.lookaheads.proofs.LookLaws.{added_some}
use Rattle.lookaheads.proofs.add.Goals as goal

pub returns-then-v-lt256 : goal.returns-then-v-lt256
returns-then-v-lt256 c =
    let l : length c.args.s ≡ 2 = search rules in
    added_some c.args.keyed.now c.args.s c.args.v _ l refl _ refl
