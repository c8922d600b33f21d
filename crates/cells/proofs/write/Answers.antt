use Rattle.std.proofs.Common.{arith}
use Rattle.cells.proofs.WordLaws.{quiet_next, quiet_rest, row_none, row_up, row_all, row_one, row_last}
use Rattle.cells.proofs.write.Goals as goal

pub loop-r-init : goal.loop-r-init
loop-r-init c = (omega arith, row_none _ _ _)

pub loop-r-preserved : goal.loop-r-preserved
loop-r-preserved c =
    let n = c.in-Some.ensures in
    (omega arith, row_one _ _ _ _ _ _ (row_up _ _ _ _ _ n.least (quiet_next _ _ _ _ _ c.requires.2 n) _ c.loop-r.invariant.1) c.put.ensures)

pub returns : goal.returns
returns c =
    row_last _ _ _ _ _ _ _ (row_all _ _ _ _ _ (quiet_rest _ _ _ _ c.requires.2 c.in_default.ensures) c.requires.2.beyond _ c.loop-r.invariant.1)
    c.put-2.ensures
