-- The lines of all rows, rounded up to whole pages.
use Rattle.std.proofs.Common.{arith}
use Rattle.pages.proofs.Writing.{fill_is}
use Rattle.pages.proofs.blank_lines.Goals as goal

pub returns : goal.returns
returns c = omega (arith, c.div_ceil.ensures, fill_is _ _ _ _ c.at.ensures.0 c.row_width.ensures.0 c.row_lines.ensures)
