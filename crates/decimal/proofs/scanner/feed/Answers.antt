-- One byte more was fed.
use Rattle.std.proofs.Common.{refl}
use Rattle.decimal.specs.Scanning.{fed}
use Rattle.decimal.proofs.Chunks.{fed_next}
use Rattle.decimal.proofs.scanner.feed.Goals as goal

pub loop-b-init : goal.loop-b-init
unfolding fed
loop-b-init c = refl

pub loop-b-preserved : goal.loop-b-preserved
loop-b-preserved c = fed_next _ _ _ _ _ c.loop-b-test.true c.loop-b.invariant c.byte-s.ensures
