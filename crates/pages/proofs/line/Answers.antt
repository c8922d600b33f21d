-- Its parts are written one behind the other.
use Rattle.std.proofs.Common.{refl}
use Rattle.pages.proofs.Writing.{line_done}
use Rattle.pages.proofs.line.Goals as goal

pub returns : goal.returns
returns c =
    line_done _ _ _ _ _ _ _ c.opened.ensures.0 refl c.cells.ensures.columns c.open_line.ensures c.cells.ensures.after c.spaces.ensures c.end_line.ensures
