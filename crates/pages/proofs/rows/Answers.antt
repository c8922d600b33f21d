-- The first row stands behind the arrays, and each row behind the one before it.
use Rattle.std.proofs.Common.{arith}
use Rattle.listing.proofs.Lines.{placed_start}
use Rattle.pages.proofs.Writing.{rows_start, rows_next, rows_all}
use Rattle.pages.proofs.rows.Goals as goal

pub loop-q-init : goal.loop-q-init
loop-q-init c = rows_start (placed_start _ _ _ _ _ c.at-count.ensures c.row_width-w.ensures c.at.ensures c.cells_at-from.ensures) _

pub loop-q-preserved : goal.loop-q-preserved
loop-q-preserved c = rows_next c.loop-q.invariant c.row.ensures

pub returns : goal.returns
returns c = rows_all c.loop-q.invariant (omega arith)
