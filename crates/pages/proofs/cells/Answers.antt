-- One cell more.
use Rattle.std.proofs.Common.{◌≡◌, arith}
use Rattle.pages.specs.Parts.{cells_from}
use Rattle.pages.proofs.Writing.{cells_none, cells_next}
use Rattle.pages.proofs.cells.Goals as goal

pub loop-k-init : goal.loop-k-init
loop-k-init c = cells_none _ _ _

pub loop-k-preserved : goal.loop-k-preserved
loop-k-preserved c = cells_next c.loop-k.invariant _ c.at.ensures c.right.ensures

pub returns : goal.returns
unfolding cells_from
returns c =
    let all : c.args.count ≡ c.loop-k.k = omega arith in
    record { after = rw all c.loop-k.invariant.wrote; columns = rw all c.loop-k.invariant.wide }
