use Rattle.std.proofs.Common.{arith}
use Rattle.sets.proofs.BitLaws.{one_shl}
use Rattle.nonterminals.proofs.LengthLaws.{lessen_less, lessen_kept}
use Rattle.nonterminals.proofs.lessen.Goals as goal

pub returns-then-v-m : goal.returns-then-v-m
returns-then-v-m c =
    let j = c.left_number-j in
    rw (one_shl 64 j.result (omega arith)) (lessen_less c.args.c.now c.args.e.now c.args.r _ _ _ j.ensures.0 c.from-m.ensures c.total-v.ensures c.if-v-m.true)

pub returns : goal.returns
returns c = lessen_kept c.args.c.now c.args.e.now c.args.r _ _ _ c.left_number-j.ensures.0 c.from-m.ensures c.total-v.ensures c.if-v-m.false
