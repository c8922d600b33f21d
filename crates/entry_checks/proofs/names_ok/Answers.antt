use Rattle.std.proofs.Common.{rules}
use Rattle.sets.proofs.TestLaws.{all_fails}
use Rattle.entry_checks.proofs.names_ok.Goals as goal

pub returns-then-not-name_ok : goal.returns-then-not-name_ok
returns-then-not-name_ok c = all_fails _ _ c.loop-i.i (search rules) (search rules)
