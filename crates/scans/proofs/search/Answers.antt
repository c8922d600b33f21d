use mathlib.Core.Path.{sym, ◌∙◌}
use mathlib.Core.Bool.{false≢true}
use Rattle.std.proofs.Common.{arith, below_more}
use Rattle.scans.proofs.Searching.{search_found, all_open}
use Rattle.scans.proofs.search.Goals as goal

pub is_closed-requires : goal.is_closed-requires
is_closed-requires c = c.requires c.loop-i.i

pub returns-then-is_closed : goal.returns-then-is_closed
returns-then-is_closed c = search_found _ _ c.loop-i.i c.loop-i.invariant c.loop-i-test.true c.is_closed.ensures c.if-is_closed.true

pub loop-i-preserved : goal.loop-i-preserved
loop-i-preserved c = below_more _ _ c.loop-i.invariant (λ b. false≢true (sym c.if-is_closed.false ∙ c.is_closed.ensures ∙ b))

pub returns : goal.returns
returns c = all_open _ _ (λ j h. c.loop-i.invariant j (omega (arith, c.loop-i-test.false)))
