use Rattle.parser.proofs.Held.{action_within, steppable}
use Rattle.parser.proofs.Going.{countable, countable_next, stop_31, pauses, stop_step, accept_step, goes_on}
use Rattle.parser.specs.Phases.{count_bits}
use Rattle.parser.proofs.advance.Goals as goal

pub action-a-requires : goal.action-a-requires
action-a-requires c = action_within c.loop-z.invariant.held c.requires.0

pub count-requires : goal.count-requires
count-requires c = countable c.loop-z.invariant count_bits c.requires.3

pub accepted-requires : goal.accepted-requires
accepted-requires c = countable_next c.loop-z.invariant count_bits c.requires.3 c.if-s-eq0.false

pub stopped-requires : goal.stopped-requires
stopped-requires c = countable c.loop-z.invariant count_bits c.requires.3

pub returns-then-a-eq0 : goal.returns-then-a-eq0
returns-then-a-eq0 c = stop_31 c.loop-z.invariant c.requires.0 c.action-a.ensures.0 c.if-a-eq0.true c.count.ensures

pub returns-then-s-eq0 : goal.returns-then-s-eq0
returns-then-s-eq0 c = pauses c.loop-z.invariant c.requires.0 c.action-a.ensures.0 c.if-a-eq0.false c.if-s-eq0.true

pub step-requires : goal.step-requires
step-requires c = steppable c.loop-z.invariant.held c.requires.0 c.args.barred c.action-a.ensures.0 c.if-a-eq0.false c.requires.1 c.action-a.ensures.1 c.if-s-eq0.false

pub loop-z-preserved : goal.loop-z-preserved
loop-z-preserved c =
    goes_on c.loop-z.invariant c.requires.0 c.action-a.ensures.0 c.if-a-eq0.false c.if-s-eq0.false (rw c.in-Ok-Some.field-0-is at c.in-Ok-Some.ensures) c.step.auto.stack c.step.auto.list

pub returns-in-Ok-None : goal.returns-in-Ok-None
returns-in-Ok-None c =
    accept_step c.loop-z.invariant c.requires.0 c.action-a.ensures.0 c.if-a-eq0.false c.if-s-eq0.false (rw c.in-Ok-None.field-0-is at c.in-Ok-None.ensures) c.accepted.ensures

pub returns-in-Err : goal.returns-in-Err
returns-in-Err c = stop_step c.loop-z.invariant c.requires.0 c.action-a.ensures.0 c.if-a-eq0.false c.if-s-eq0.false c.in-Err.ensures c.stopped.ensures
