use Rattle.std.proofs.Common.{◌∙◌, arith}
use Rattle.card.proofs.PassLaws.{next_faulty, next_sound, start_most}
use Rattle.card.proofs.pass_one.Goals as goal

pub overflow_add-sum : goal.overflow_add-sum
overflow_add-sum c = omega (arith, c.requires.0.sum, start_most c.args.c.now c.args.r (λ i. omega (arith, c.type_inv.c i)))

pub returns-then-p : goal.returns-then-p
returns-then-p c = next_faulty _ _ _ c.args.p c.requires.0 (c.from.ensures ∙ c.length.ensures) c.if-p.true

pub returns-else-p : goal.returns-else-p
returns-else-p c = next_sound _ _ _ c.args.p _ c.requires.0 (c.from.ensures ∙ c.length.ensures) c.if-p.false (rw c.as_far.ensures at c.bad_symbol-fault.ensures)
