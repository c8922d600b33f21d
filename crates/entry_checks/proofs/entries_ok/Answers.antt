use Rattle.entry_checks.proofs.EntryLaws.{entered_fits, some_state}
use Rattle.entry_checks.proofs.entries_ok.Goals as goal

pub entered-first-requires : goal.entered-first-requires
entered-first-requires c = (c.requires.shaped, entered_fits c.requires 0 (some_state c.requires))
