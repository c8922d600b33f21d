use Rattle.std.proofs.Common.{refl, ◌∙◌, length-set, arith}
use Rattle.machine.specs.ComputedRun.{start}
use Rattle.machine.proofs.Checked.{cells_within}
use Rattle.parser.proofs.Running.{running_start, run_ends, spent_ends, running_on}
use Rattle.parser.proofs.run.Goals as goal

pub cells_of-cells-requires : goal.cells_of-cells-requires
cells_of-cells-requires c = cells_within c.requires.0.table c.shape_of-z.ensures

pub loop-end-init : goal.loop-end-init
loop-end-init c = rw c.at_start-s.ensures (running_start c.args.stack.now _ c.requires.0 c.shape_of-z.ensures c.cells_of-cells.ensures)

pub returns-in-Break : goal.returns-in-Break
unfolding start
returns-in-Break c = (run_ends c.loop-end.invariant _ c.portion.ensures.0 c.in-Break.ensures, c.loop-end.invariant.resumes)

pub returns-then-left-eq0 : goal.returns-then-left-eq0
unfolding start
returns-then-left-eq0 c =
    (spent_ends c.loop-end.invariant _ c.portion.ensures.0 _ _ _ c.in-Continue.ensures (omega (arith, c.portion.ensures.0)) c.count.ensures, c.loop-end.invariant.resumes)

pub loop-end-preserved : goal.loop-end-preserved
unfolding start
loop-end-preserved c =
    let g = c.loop-end.invariant in
    rw c.leave_checkpoint.ensures.0
    (running_on g _ c.portion.ensures.0 _ _ _ c.in-Continue.ensures c.args.stack.now refl c.requires.0 (length-set c.args.stack.now 0 0) c.requires.2
    (c.advance.auto.stack ∙ g.stacks) (c.leave_checkpoint.auto.second ∙ g.seconds) c.leave_checkpoint.ensures.1 (c.advance.auto.list ∙ g.lists))
