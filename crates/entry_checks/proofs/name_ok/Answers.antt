use Rattle.std.proofs.Common.{arith}
use Rattle.entry_checks.proofs.EntryLaws.{entered_fits}
use Rattle.entry_checks.proofs.name_ok.Goals as goal

pub entered-requires : goal.entered-requires
entered-requires c = (c.requires.shaped, entered_fits c.requires c.args.v (grind arith))
