-- Blanks and a line feed.
use Rattle.decimal.proofs.Written.{wrote_both}
use Rattle.pages.proofs.end_line.Goals as goal

pub returns : goal.returns
returns c = wrote_both (rw c.saturating_sub.ensures at c.spaces.ensures) c.put.ensures
