use Rattle.std.proofs.Common.{rules}
use Rattle.std.proofs.lemmas.Result.{err_from_is_err_and}
use Rattle.exploration.proofs.Passes.{passing_start, pass_over, sort_asks, pass_stuck, pass_asks, pass_goes, pass_cut}
use Rattle.exploration.proofs.pass.Goals as goal

pub loop-x-init : goal.loop-x-init
loop-x-init c = passing_start _ (rw c.in-Some.is at c.in_ok-arrived.ensures)

pub sort-requires : goal.sort-requires
sort-requires c = sort_asks c.requires.0 c.requires.3 c.loop-x.invariant

pub returns-in_err-x : goal.returns-in_err-x
returns-in_err-x c =
    let p = err_from_is_err_and c.from_residual-in_err-x.result c.from_residual-in_err-x.ensures.1 in
    rw (p.1, ← c.arrive.auto.second) (pass_stuck c.requires.0 c.requires.3 c.loop-x.invariant c.in_err-x.ensures)

pub returns-then-x-eq0 : goal.returns-then-x-eq0
returns-then-x-eq0 c = rw c.arrive.auto.second at (pass_over c.requires.0 c.requires.3 c.loop-x.invariant c.in_ok-x.ensures c.join-found.ensures c.join-later.ensures c.if-x-eq0.true)

pub reduce_any-requires : goal.reduce_any-requires
reduce_any-requires c = pass_asks c.requires.0 c.requires.3 c.loop-x.invariant c.in_ok-x.ensures c.join-found.ensures c.join-later.ensures c.if-x-eq0.false (search rules)

pub returns-in_err-s : goal.returns-in_err-s
returns-in_err-s c =
    let p = err_from_is_err_and c.from_residual-in_err-s.result c.from_residual-in_err-s.ensures.1 in
    rw (p.1, ← c.arrive.auto.second)
    (pass_cut c.requires.0 c.requires.3 c.loop-x.invariant c.in_ok-x.ensures c.join-found.ensures c.join-later.ensures c.if-x-eq0.false (search rules) c.reduce_any.auto.second c.reduce_any.ensures c.in_err-s.was)

pub loop-x-smaller : goal.loop-x-smaller
loop-x-smaller c =
    (pass_goes c.requires.0 c.requires.3 c.loop-x.invariant c.in_ok-x.ensures c.join-found.ensures c.join-later.ensures c.if-x-eq0.false (search rules) c.reduce_any.auto.second c.reduce_any.ensures c.in_ok-s.was).1

pub loop-x-preserved : goal.loop-x-preserved
loop-x-preserved c =
    (pass_goes c.requires.0 c.requires.3 c.loop-x.invariant c.in_ok-x.ensures c.join-found.ensures c.join-later.ensures c.if-x-eq0.false (search rules) c.reduce_any.auto.second c.reduce_any.ensures c.in_ok-s.was).0
