-- Two texts written one behind the other are one.
use Rattle.std.proofs.Common.{rules}
use Rattle.decimal.proofs.Written.{wrote_both, page_written, used_written}
use Rattle.card_input.proofs.titled.Goals as goal

pub returns-clause-result_after : goal.returns-clause-result_after
returns-clause-result_after c = let text = wrote_both c.word.ensures c.word-2.ensures in search (rules, page_written)

pub returns-clause-used : goal.returns-clause-used
returns-clause-used c = let text = wrote_both c.word.ensures c.word-2.ensures in search (rules, used_written)
