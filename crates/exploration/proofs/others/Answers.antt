use mathlib.Core.Path.{◌∙◌}
use Rattle.std.proofs.Common.{rules}
use Rattle.std.proofs.lemmas.Result.{err_from_is_err_and}
use Rattle.exploration.proofs.Explores.{open_cut, deciding_end, deciding_less, deciding_next, wrong_offer}
use Rattle.exploration.proofs.others.Goals as goal

pub returns-in_err-n : goal.returns-in_err-n
returns-in_err-n c =
    let p = c.requires in
    let e = err_from_is_err_and c.from_residual.result c.from_residual.ensures.1 in
    rw (e.1, ← (c.begin-s.auto.second ∙ c.loop-todo.invariant.1)) (open_cut p.0.checked p.1 c.loop-todo.invariant.0.unclosed c.in_err-n.ensures)

pub returns-in_default : goal.returns-in_default
returns-in_default c =
    let p = c.requires in
    wrong_offer p.0.checked p.2 p.3 (rw (c.begin-s.auto.second ∙ c.loop-todo.invariant.1) at (rw c.in_default.is at c.in_ok-n.ensures))

pub loop-todo-smaller : goal.loop-todo-smaller
loop-todo-smaller c =
    deciding_less c.loop-todo.invariant.0
    (rw (c.begin-s.auto.second ∙ c.loop-todo.invariant.1) at (rw c.in-Some.is at c.in_ok-n.ensures))
    c.loop-todo-test.true

pub loop-todo-preserved : goal.loop-todo-preserved
loop-todo-preserved c =
    let e = c.begin-s.auto.second ∙ c.loop-todo.invariant.1 in
    (deciding_next c.loop-todo.invariant.0 (rw e at (rw c.in-Some.is at c.in_ok-n.ensures)) c.join-found.ensures (search rules), c.pass.auto.second ∙ e)

pub returns : goal.returns
returns c = let p = c.requires in deciding_end c.loop-todo.invariant.0 p.0.checked p.2 p.3 c.loop-todo-test.false
