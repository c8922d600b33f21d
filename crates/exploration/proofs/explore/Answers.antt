use Rattle.std.proofs.lemmas.Result.{err_from_is_err_and}
use Rattle.machine.proofs.Checked.{cells_within}
use Rattle.exploration.proofs.Words.{open_has}
use Rattle.exploration.proofs.Explores.{open_cut, wrong_offer}
use Rattle.exploration.proofs.explore.Goals as goal

pub cells_of-cells-requires : goal.cells_of-cells-requires
cells_of-cells-requires c = cells_within c.requires.0 c.shape_of-z.ensures

pub returns-in_err-n : goal.returns-in_err-n
returns-in_err-n c =
    let p = c.requires in
    let t = c.shape_of-z.ensures.terminals_are in
    let e = err_from_is_err_and c.from_residual.result c.from_residual.ensures.1 in
    rw e.1 (open_cut p.0 p.1 (λ m. (rw t at (open_has _ _ _ c.all.ensures c.minus-todo.ensures m)).0) c.in_err-n.ensures)

pub returns-in_default : goal.returns-in_default
returns-in_default c = let p = c.requires in wrong_offer p.0 p.2 p.3 (rw c.in_default.is at c.in_ok-n.ensures)
