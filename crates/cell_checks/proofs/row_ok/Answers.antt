use mathlib.Core.Path.{refl}
use Rattle.cell_checks.proofs.RowLaws.{row_parts}
use Rattle.cell_checks.proofs.row_ok.Goals as goal

pub returns : goal.returns
returns c = row_parts c.requires.0 c.args.q c.requires.1 refl refl c.end_ok-first.ensures c.actions_ok-actions.ensures c.states_ok-gotos.ensures
