use mathlib.Core.Path.{sym, ◌∙◌}
use Rattle.std.proofs.Common.{rules, arith, ◌+◌}
use Rattle.entry_checks.proofs.EntryLaws.{next_part, last_part, part_fails}
use Rattle.entry_checks.proofs.row_names_ok.Goals as goal

pub returns-then-not-part_ok : goal.returns-then-not-part_ok
returns-then-not-part_ok c = part_fails c.requires.0 c.args.q c.requires.1 c.loop-x.x _ (c.loop-x.x + 8) (omega arith) c.loop-x-test.true c.loop-x.invariant.0 c.part_ok.ensures (search rules)

pub loop-x-preserved : goal.loop-x-preserved
loop-x-preserved c = (
  sym (next_part c.requires.0 c.args.q c.requires.1 c.loop-x.x _ (c.loop-x.x + 8) (omega arith) c.loop-x-test.true c.loop-x.invariant.0 c.part_ok.ensures) ∙ search rules,
  c.loop-x-test.true,
)

pub returns : goal.returns
returns c = last_part c.requires.0 c.args.q c.requires.1 c.loop-x.x _ (omega (arith, c.loop-x.invariant.1)) c.loop-x.invariant.0 c.names_ok.ensures
