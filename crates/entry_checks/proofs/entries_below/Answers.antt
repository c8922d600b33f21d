use Rattle.std.proofs.Common.{arith}
use Rattle.entry_checks.proofs.EntryLaws.{entered_fits, width_most}
use Rattle.entry_checks.proofs.entries_below.Goals as goal

pub overflow_cast-w : goal.overflow_cast-w
overflow_cast-w c = omega (arith, width_most c.requires)

pub entered-requires : goal.entered-requires
entered-requires c = (c.requires.shaped, entered_fits c.requires c.loop-q.q c.loop-q-test.true)
