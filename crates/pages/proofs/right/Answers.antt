-- As many blanks stand before the number as are missing to the columns.
use Rattle.pages.proofs.Writing.{right_done}
use Rattle.pages.proofs.right.Goals as goal

pub returns : goal.returns
returns c = right_done _ _ _ _ c.digits.ensures c.saturating_sub-gap.ensures c.spaces.ensures c.number.ensures
