use Rattle.cell_checks.proofs.RowLaws.{length_fits}
use Rattle.cell_checks.proofs.productions_ok.Goals as goal

pub production_ok-ok-requires : goal.production_ok-ok-requires
production_ok-ok-requires c = (c.requires.shaped, length_fits c.requires c.loop-r.r c.loop-r-test.true)
