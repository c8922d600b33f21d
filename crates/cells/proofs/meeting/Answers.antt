use Rattle.std.proofs.Common.{arith}
use Rattle.cells.proofs.WordLaws.{quiet_next, quiet_rest, counted_none, counted_up, counted_all, counted_one, counted_last}
use Rattle.cells.proofs.meeting.Goals as goal

pub loop-r-init : goal.loop-r-init
loop-r-init c = (omega arith, λ m s h e. counted_none s _ m _ e)

pub loop-r-preserved : goal.loop-r-preserved
loop-r-preserved c =
    let n = c.in-Some.ensures in
    (omega arith, λ m s h e. counted_one s _ m h _ _ _ (counted_up s _ m _ _ n.least (quiet_next _ _ _ _ _ c.requires.1 n) _ _ (c.loop-r.invariant.1 m s h e)))

pub returns : goal.returns
returns c = λ m s h e.
    counted_last s _ m h _ _ _ _ c.requires.0
    (counted_all s _ m _ _ _ _ (quiet_rest _ _ _ _ c.requires.1 c.in_default.ensures) c.requires.1.beyond (c.loop-r.invariant.1 m s h e))
