use Rattle.std.proofs.Common.{arith, rules}
use Rattle.generator.proofs.Made.{eleven_met, few_states, numbered_states, twelve_met, stage, table_met, conflict_met}
use Rattle.generator.proofs.make.Goals as goal

pub returns-in_default : goal.returns-in_default
returns-in_default c = eleven_met _ _ _ _ c.requires.2 c.requires.0 c.requires.1 _ _ _ _ c.states.ensures (omega arith) (omega arith) (omega arith) (search rules) c.clear.ensures

pub build-k-requires : goal.build-k-requires
build-k-requires c = (c.requires.0, numbered_states _ _ _ _ c.requires.2 c.requires.0 c.requires.1 _ _ _ _ c.states.ensures (omega arith) (omega arith) (omega arith) _ c.in-Some.is, omega (arith, c.requires.2.halves))

pub returns-then-k-gt-LIMIT : goal.returns-then-k-gt-LIMIT
returns-then-k-gt-LIMIT c = twelve_met _ _ _ _ c.requires.2 c.requires.0 c.requires.1 _ _ _ _ c.states.ensures (omega arith) (omega arith) (omega arith) _ c.in-Some.is _ _ _ c.build-k.ensures c.if-k-gt-LIMIT.true c.clear-then-k-gt-LIMIT.ensures

pub walk-requires : goal.walk-requires
walk-requires c = (numbered_states _ _ _ _ c.requires.2 c.requires.0 c.requires.1 _ _ _ _ c.states.ensures (omega arith) (omega arith) (omega arith) _ c.in-Some.is, omega (arith, c.requires.2.words), c.build-k.ensures.holds c.if-k-gt-LIMIT.false)

pub overflow_cast-n : goal.overflow_cast-n
overflow_cast-n c = omega (arith, (few_states _ _ _ _ c.requires.2 c.requires.0 c.requires.1 _ _ _ _ c.states.ensures (omega arith) (omega arith) (omega arith) _ c.in-Some.is).0)

pub overflow_cast-n-2 : goal.overflow_cast-n-2
overflow_cast-n-2 c = omega (arith, (few_states _ _ _ _ c.requires.2 c.requires.0 c.requires.1 _ _ _ _ c.states.ensures (omega arith) (omega arith) (omega arith) _ c.in-Some.is).0)

pub fill-requires : goal.fill-requires
fill-requires c = stage _ _ _ _ c.requires.2 c.requires.0 c.requires.1 _ _ _ _ c.states.ensures (omega arith) (omega arith) (omega arith) _ c.in-Some.is _ _ _ c.build-k.ensures c.if-k-gt-LIMIT.false _ c.walk.ensures

pub returns-in_err-fill : goal.returns-in_err-fill
returns-in_err-fill c =
    conflict_met _ _ _ _ c.requires.2 c.requires.0 c.requires.1 _ _ _ _ c.states.ensures (omega arith) (omega arith) (omega arith) _ c.in-Some.is _ _ _ c.build-k.ensures c.if-k-gt-LIMIT.false _ c.walk.ensures
    c.shortest-e.ensures _ _ c.from_residual.ensures.1 c.in_err-fill.ensures

pub returns : goal.returns
returns c = table_met _ _ _ _ c.requires.2 c.requires.0 c.requires.1 _ _ _ _ c.states.ensures (omega arith) (omega arith) (omega arith) _ c.in-Some.is _ _ _ c.build-k.ensures c.if-k-gt-LIMIT.false _ c.walk.ensures c.shortest-e.ensures c.in_ok-fill.ensures
