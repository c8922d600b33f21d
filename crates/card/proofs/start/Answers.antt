use Rattle.std.proofs.Common.{arith}
use Rattle.card.proofs.PassLaws.{start_most}
use Rattle.card.proofs.start.Goals as goal

pub overflow_add-s : goal.overflow_add-s
overflow_add-s c =
    let most = start_most c.args.c.now c.loop-i.i (λ i. omega (arith, c.type_inv.c i)) in
    omega arith
