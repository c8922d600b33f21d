-- It is one line.
use Rattle.std.proofs.Common.{rules}
use Rattle.decimal.proofs.Written.{page_written, used_written}
use Rattle.listing.proofs.Lines.{refusal_done}
use Rattle.listing.proofs.refusal.Goals as goal

pub returns-clause-result_after : goal.returns-clause-result_after
returns-clause-result_after c = let text = refusal_done _ c.line.ensures in search (rules, page_written)

pub returns-clause-used : goal.returns-clause-used
returns-clause-used c = search (rules, used_written)
