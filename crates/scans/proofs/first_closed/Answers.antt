use mathlib.Core.Path.{sym, ◌∙◌}
use Rattle.scans.proofs.Searching.{none_closed, outside_open}
use Rattle.scans.proofs.first_closed.Goals as goal

pub returns-then-all_outside : goal.returns-then-all_outside
returns-then-all_outside c = outside_open _ _ c.past_closed.result _ c.lowest_closed.ensures c.past_closed.ensures (sym c.all_outside.ensures ∙ c.if-all_outside.true)

pub returns-then-closed-eq0 : goal.returns-then-closed-eq0
returns-then-closed-eq0 c = none_closed _ _ c.if-closed-eq0.true
