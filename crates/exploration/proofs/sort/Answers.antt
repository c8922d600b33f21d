use mathlib.Core.Path.{sym, ◌∙◌}
use Rattle.exploration.proofs.Sorts.{long_enough, walk_start, walk_end, walk_zero, walk_put}
use Rattle.exploration.proofs.sort.Goals as goal
use Rattle.exploration.proofs.sort.Goals.{then-a-ne0+else-short, else-a-ne0}

pub loop-g-init : goal.loop-g-init
loop-g-init c = walk_start c.ranges.group.fits

pub loop-g-preserved : goal.loop-g-preserved
loop-g-preserved c =
    let e = sym c.cell_at-a.ensures in
    let walk = c.loop-g.invariant in
    let some = c.loop-g-test.true in
    let lowest = c.lowest-m.ensures in
    let rest = c.rest-g.ensures in
    elim c.if-a-ne0.branch [
      | then-a-ne0+else-short w ↦ rw w.r-is (walk_put walk some lowest rest e w.if-a-ne0.true (long_enough _ _ _ w.short.ensures w.if-short.false) w.put-r.ensures)
      | else-a-ne0 w ↦ rw w.r-is (walk_zero walk some lowest rest (e ∙ w.if-a-ne0.false))
    ]

pub returns : goal.returns
returns c = walk_end c.loop-g.invariant c.loop-g-test.false
