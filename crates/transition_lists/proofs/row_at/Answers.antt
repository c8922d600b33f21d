use Rattle.std.proofs.Common.{arith}
use Rattle.grammar.proofs.CardLaws.{well_formed}
use Rattle.areas.proofs.RowLaws.{row_small}
use Rattle.transition_lists.proofs.row_at.Goals as goal

pub row-requires : goal.row-requires
row-requires c = row_small _ (well_formed _ c.requires.0) _ (omega arith)

pub returns : goal.returns
returns c = let small = row_small _ (well_formed _ c.requires.0) c.args.q (omega arith) in (c.row.ensures, omega arith)
