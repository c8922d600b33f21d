use Rattle.unlisted_steps.proofs.Outcomes.{shift_goes, shift_full}
use Rattle.unlisted_steps.proofs.shift.Goals as goal

pub returns-then-at-second : goal.returns-then-at-second
returns-then-at-second c = λ t q qs h k. shift_goes h k c.requires.1 c.if-at-second.true

pub returns-else-at-second : goal.returns-else-at-second
returns-else-at-second c = λ t q qs h k. shift_full h k c.if-at-second.false
