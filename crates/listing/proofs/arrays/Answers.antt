-- Its parts are written one behind the other.
use Rattle.listing.proofs.Lines.{arrays_done}
use Rattle.listing.proofs.arrays.Goals as goal

pub returns : goal.returns
returns c =
    arrays_done _ _ _ _ _ _ _ c.at-p.ensures.0 c.at.ensures.0 c.left_at-lefts.ensures c.length_at-lengths.ensures c.entered_at-entered.ensures c.cells_at-cells.ensures c.line.ensures c.line-2.ensures c.line-3.ensures
