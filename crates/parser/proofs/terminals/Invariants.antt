use Rattle.std.proofs.Common.{◌-◌, ◌^◌, ◌<◌}
use Rattle.parser.proofs.Listing.{Listing}
use Rattle.parser.proofs.terminals.Given as goal

abbrev pub invariant-loop-left : goal.invariant-loop-left
invariant-loop-left l = Listing l.expected l.out l.left l.n × (l.left < 2 ^ 64)

abbrev pub decreases-loop-left : goal.decreases-loop-left
decreases-loop-left l = 64 - l.n
