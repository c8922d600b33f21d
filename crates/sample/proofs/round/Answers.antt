use Rattle.std.proofs.Common.{◌≡◌, ◌+◌, ◌-◌, arith}
use Rattle.sample.proofs.RoundLaws.{still_none, still_more}
use Rattle.sample.proofs.round.Goals as goal

pub loop-r-init : goal.loop-r-init
loop-r-init c =
    let p = c.productions-r.ensures in
    (c.requires.1, rw p (still_none _ _ _), rw p c.end-s.ensures)

pub loop-r-preserved : goal.loop-r-preserved
loop-r-preserved c =
    let one_less : c.loop-r.r ≡ c.loop-r.r - 1 + 1 = omega arith in
    (c.lessen-lessened.ensures.0, still_more _ _ _ (rw one_less at c.loop-r.invariant.1) c.lessen-lessened.ensures.1, c.start_before-s.ensures)
