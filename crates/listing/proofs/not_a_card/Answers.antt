-- It is one word.
use Rattle.std.proofs.Common.{rules}
use Rattle.decimal.proofs.Written.{page_written, used_written}
use Rattle.listing.proofs.not_a_card.Goals as goal

pub returns-clause-result_after : goal.returns-clause-result_after
returns-clause-result_after c = search (rules, page_written)

pub returns-clause-used : goal.returns-clause-used
returns-clause-used c = search (rules, used_written)
