use Rattle.std.proofs.Common.{◌+◌, arith, ap}
use Rattle.cells.proofs.AreaLaws.{inserted}
use Rattle.cells.proofs.insert.Goals as goal

pub returns : goal.returns
returns c = (
  ap (λ i. i + c.args.n) c.row-end.ensures,
  inserted _ _ _ _ _ _ _ _ c.row-first.ensures c.row-end.ensures (omega arith) (omega arith) c.copy_within.ensures.len c.copy_within.ensures.by_index.0 c.copy_within.ensures.by_index.2 c.copy_from_slice.ensures.after,
)
