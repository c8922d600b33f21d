-- The bytes that the loop has passed were fed.
use Rattle.std.proofs.Common.{◌≡◌, take}
use Rattle.decimal.specs.Scanning.{fed_of, fed}
use Rattle.decimal.proofs.scanner.feed.Given as goal

abbrev pub invariant-loop-b : goal.invariant-loop-b
invariant-loop-b l = fed_of l.card l.s ≡ fed (fed_of l.initial.card l.initial.s) (take l.b-index l.chunk)
