use Rattle.std.proofs.Common.{rules}
use Rattle.entry_checks.proofs.EntryLaws.{none_named}
use Rattle.entry_checks.proofs.part_ok.Goals as goal

pub returns-then-none_named : goal.returns-then-none_named
returns-then-none_named c = none_named c.requires.0 c.args.cells.now c.args.x c.none_named.ensures (search rules)
