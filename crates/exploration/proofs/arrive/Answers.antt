use Rattle.std.proofs.Common.{arith}
use Rattle.std.proofs.lemmas.Result.{err_from_is_err_and}
use Rattle.exploration.proofs.Arrives.{action_fits, wrong_ends, spent_ends, shift_goes, shift_ends, reduce_asks, reduce_goes, reduce_ends}
use Rattle.exploration.proofs.arrive.Goals as goal

pub overflow_mul-s : goal.overflow_mul-s
overflow_mul-s c = omega (arith, action_fits c.requires.0 c.requires.1 c.loop-i.invariant c.loop-i-test.true, c.well_formed)

pub cell_at-a-requires : goal.cell_at-a-requires
cell_at-a-requires c = action_fits c.requires.0 c.requires.1 c.loop-i.invariant c.loop-i-test.true

pub returns-then-a-eq0 : goal.returns-then-a-eq0
returns-then-a-eq0 c = wrong_ends c.requires.0 c.requires.1 c.loop-i.invariant c.loop-i-test.true c.cell_at-a.ensures c.if-a-eq0.true

pub returns-then-s-eq0 : goal.returns-then-s-eq0
returns-then-s-eq0 c = spent_ends c.requires.0 c.requires.1 c.loop-i.invariant c.loop-i-test.true c.cell_at-a.ensures c.if-a-eq0.false c.if-s-eq0.true

pub returns-in_err-s : goal.returns-in_err-s
returns-in_err-s c =
    let p = err_from_is_err_and c.from_residual.result c.from_residual.ensures.1 in
    rw p.1 (shift_ends c.requires.0 c.requires.1 c.loop-i.invariant c.loop-i-test.true c.cell_at-a.ensures c.if-a-eq0.false c.if-s-eq0.false c.if-a-lt1024.true c.shift.auto.second c.shift.ensures c.in_err-s.was)

pub loop-i-smaller-then-a-lt1024 : goal.loop-i-smaller-then-a-lt1024
loop-i-smaller-then-a-lt1024 c =
    (shift_goes c.requires.0 c.requires.1 c.loop-i.invariant c.loop-i-test.true c.cell_at-a.ensures c.if-a-eq0.false c.if-s-eq0.false c.if-a-lt1024.true c.shift.auto.second c.shift.ensures c.in_ok-s.was).1

pub loop-i-preserved-then-a-lt1024 : goal.loop-i-preserved-then-a-lt1024
loop-i-preserved-then-a-lt1024 c =
    (shift_goes c.requires.0 c.requires.1 c.loop-i.invariant c.loop-i-test.true c.cell_at-a.ensures c.if-a-eq0.false c.if-s-eq0.false c.if-a-lt1024.true c.shift.auto.second c.shift.ensures c.in_ok-s.was).0

pub reduce-requires : goal.reduce-requires
reduce-requires c = reduce_asks c.requires.0 c.requires.1 c.loop-i.invariant c.loop-i-test.true c.cell_at-a.ensures c.if-a-eq0.false c.if-s-eq0.false c.if-a-lt1024.false

pub returns-in_err-s-2 : goal.returns-in_err-s-2
returns-in_err-s-2 c =
    let p = err_from_is_err_and c.from_residual-in_err-s-2.result c.from_residual-in_err-s-2.ensures.1 in
    rw p.1 (reduce_ends c.requires.0 c.requires.1 c.loop-i.invariant c.loop-i-test.true c.cell_at-a.ensures c.if-a-eq0.false c.if-s-eq0.false c.if-a-lt1024.false c.reduce.auto.second c.reduce.ensures c.in_err-s-2.was)

pub loop-i-smaller : goal.loop-i-smaller
loop-i-smaller c =
    (reduce_goes c.requires.0 c.requires.1 c.loop-i.invariant c.loop-i-test.true c.cell_at-a.ensures c.if-a-eq0.false c.if-s-eq0.false c.if-a-lt1024.false c.reduce.auto.second c.reduce.ensures c.in_ok-s-2.was).1

pub loop-i-preserved : goal.loop-i-preserved
loop-i-preserved c =
    (reduce_goes c.requires.0 c.requires.1 c.loop-i.invariant c.loop-i-test.true c.cell_at-a.ensures c.if-a-eq0.false c.if-s-eq0.false c.if-a-lt1024.false c.reduce.auto.second c.reduce.ensures c.in_ok-s-2.was).0
