-- As many numbers are written as the loop has passed, and it passes no more than there are.
use Rattle.std.proofs.Common.{◌-◌, ◌≤◌}
use Rattle.decimal.specs.Writing.{Wrote}
use Rattle.listing.specs.Listing.{spaced}
use Rattle.listing.specs.Parts.{part}
use Rattle.listing.proofs.numbers.Given as goal

abbrev pub invariant-loop-i : goal.invariant-loop-i
invariant-loop-i l = Wrote l.initial.page (spaced (part l.s l.from (l.i - l.from))) l.page × (l.i - l.from ≤ l.end - l.from)
