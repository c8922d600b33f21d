use Rattle.std.proofs.Common.{sym}
use Rattle.machine.proofs.RunLaws.{shifted_full}
use Rattle.steps.proofs.Kept.{shift_goes}
use Rattle.steps.proofs.shift.Goals as goal

pub returns-then-at-stack : goal.returns-then-at-stack
returns-then-at-stack c = λ t cs li z h k. shift_goes h c.requires.2 c.args.a k c.requires.1 c.if-at-stack.true

pub returns-else-at-stack : goal.returns-else-at-stack
returns-else-at-stack c = λ t cs li z h k. record { next = sym (shifted_full _ _ c.if-at-stack.false); held = tt }
