-- Its parts are written one behind the other.
use Rattle.std.proofs.Common.{rules}
use Rattle.decimal.proofs.Written.{page_written, used_written}
use Rattle.listing.proofs.Lines.{table_done}
use Rattle.listing.proofs.table.Goals as goal

pub returns-clause-result_after : goal.returns-clause-result_after
returns-clause-result_after c =
    let text = table_done _ _ c.left_at.ensures c.line.ensures c.arrays.ensures c.rows.ensures in
    search (rules, page_written)

pub returns-clause-used : goal.returns-clause-used
returns-clause-used c =
    let text = table_done _ _ c.left_at.ensures c.line.ensures c.arrays.ensures c.rows.ensures in
    search (rules, used_written)
