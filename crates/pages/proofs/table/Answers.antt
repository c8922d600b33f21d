-- The rows, and the lines that fill the last page.
use Rattle.std.proofs.Common.{rules}
use Rattle.decimal.proofs.Written.{page_written, used_written}
use Rattle.pages.proofs.Writing.{table_done}
use Rattle.pages.proofs.table.Goals as goal

pub returns-clause-result_after : goal.returns-clause-result_after
returns-clause-result_after c =
    let text = table_done _ _ c.rows.ensures c.blank_lines.ensures c.fill.ensures in
    search (rules, page_written)

pub returns-clause-used : goal.returns-clause-used
returns-clause-used c =
    let text = table_done _ _ c.rows.ensures c.blank_lines.ensures c.fill.ensures in
    search (rules, used_written)
