use Rattle.std.proofs.Common.{◌-◌, ◌≤◌}
use Rattle.cells.specs.Words.{Row}
use Rattle.cells.proofs.write.Given as goal

abbrev pub invariant-loop-r : goal.invariant-loop-r
invariant-loop-r l = (l.from ≤ 128) × Row l.b l.from l.words 0 l.initial.t l.t

abbrev pub decreases-loop-r : goal.decreases-loop-r
decreases-loop-r l = 128 - l.from
