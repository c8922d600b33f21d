use Rattle.std.proofs.Common.{refl, arith, length-set}
use Rattle.lookaheads.proofs.RowLaws.{entries_more}
use Rattle.lookaheads.proofs.entries.Goals as goal

pub loop-q-preserved : goal.loop-q-preserved
loop-q-preserved c = (
  simp length-set c.loop-q.invariant.0,
  entries_more c.args.w.now c.loop-q.s c.loop-q.q c.loop-q.q c.entering.result refl c.entering.ensures (omega arith) c.loop-q.invariant.1,
)
