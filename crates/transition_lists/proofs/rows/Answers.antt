use Rattle.std.proofs.Common.{refl, arith}
use Rattle.grammar.proofs.CardLaws.{well_formed}
use Rattle.transition_lists.proofs.PassLaws.{come_trans, store_row, row_done}
use Rattle.transition_lists.proofs.rows.Goals as goal

pub row-k-requires : goal.row-k-requires
row-k-requires c =
    let most = c.requires.1.most in
    let first = store_row _ _ _ c.requires.1 (well_formed _ c.requires.0).limits.terminals_from _ _ _ _ _ (omega arith) c.put.ensures c.loop-q.invariant in
    (c.requires.0, c.requires.1, c.loop-q-test.true, omega (arith, first.rest.long), first.passed)

pub loop-q-preserved : goal.loop-q-preserved
loop-q-preserved c =
    let most = c.requires.1.most in
    let some = (well_formed _ c.requires.0).limits.terminals_from in
    let first = store_row _ _ _ c.requires.1 some _ _ _ _ _ (omega arith) c.put.ensures c.loop-q.invariant in
    row_done _ _ _ some c.requires.1 _ _ _ _ _ _ refl (come_trans _ _ _ _ _ _ _ _ _ first.rest c.row-k.ensures)
