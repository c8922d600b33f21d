use Rattle.std.proofs.Common.{arith}
use Rattle.steps.proofs.Kept.{left_in, goto_in, reduce_none, reduce_goes, reduce_full}
use Rattle.steps.proofs.reduce_from.Goals as goal

pub left-left-requires : goal.left-left-requires
left-left-requires c = left_in c.requires

pub overflow_mul-under : goal.overflow_mul-under
overflow_mul-under c = omega (arith, goto_in c.requires c.left-left.ensures)

pub cell_at-q-requires : goal.cell_at-q-requires
cell_at-q-requires c = goto_in c.requires c.left-left.ensures

pub returns-then-q-eq0 : goal.returns-then-q-eq0
returns-then-q-eq0 c = reduce_none c.requires c.left-left.ensures c.cell_at-q.ensures c.if-q-eq0.true

pub returns-then-d-stack : goal.returns-then-d-stack
returns-then-d-stack c = reduce_goes c.requires c.left-left.ensures c.cell_at-q.ensures c.pop.ensures c.if-q-eq0.false c.if-d-stack.true

pub returns-else-d-stack : goal.returns-else-d-stack
returns-else-d-stack c = reduce_full c.requires c.left-left.ensures c.cell_at-q.ensures c.if-q-eq0.false c.if-d-stack.false
