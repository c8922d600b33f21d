use Rattle.cells.proofs.AreaLaws.{covered_filled}
use Rattle.lookaheads.proofs.close.Goals as goal

-- zeros over the table's area
pub returns-in-Err : goal.returns-in-Err
returns-in-Err c = rw c.in-Err.is (covered_filled _ _ _ c.requires.3 (c.fill.ensures.after (λ y e. e)))
