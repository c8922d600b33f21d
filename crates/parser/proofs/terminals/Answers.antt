use Rattle.std.proofs.Common.{arith}
use Rattle.parser.proofs.Listing.{listing_none, listing_next, listing_room, listing_end}
use Rattle.parser.proofs.terminals.Goals as goal

pub loop-left-init : goal.loop-left-init
loop-left-init c = (listing_none _, c.ranges.expected.fits)

pub bounds-out-n : goal.bounds-out-n
bounds-out-n c = listing_room c.loop-left.invariant.0 c.loop-left-test.true c.loop-left.invariant.1

pub overflow_add-n : goal.overflow_add-n
overflow_add-n c = omega (arith, listing_room c.loop-left.invariant.0 c.loop-left-test.true c.loop-left.invariant.1)

pub loop-left-smaller : goal.loop-left-smaller
loop-left-smaller c = omega (arith, listing_room c.loop-left.invariant.0 c.loop-left-test.true c.loop-left.invariant.1)

pub loop-left-preserved : goal.loop-left-preserved
loop-left-preserved c =
    (listing_next c.loop-left.invariant.0 c.loop-left-test.true c.loop-left.invariant.1 c.lowest-m.ensures c.rest-left.ensures, omega (arith, c.rest-left.type_inv))

pub returns : goal.returns
returns c = listing_end c.loop-left.invariant.0 c.loop-left-test.false
