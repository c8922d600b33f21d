use Rattle.std.proofs.Common.{arith}
use lib.Count.{trailing_le}
use Rattle.scans.proofs.lowest_closed.Goals as goal

pub overflow_cast-result : goal.overflow_cast-result
overflow_cast-result c = omega (arith, c.lowest.ensures.value, trailing_le 64 c.args.closed)
