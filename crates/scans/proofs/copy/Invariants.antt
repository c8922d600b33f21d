use Rattle.std.proofs.Common.{take, ◌≡◌}
use Rattle.scans.proofs.copy.Given as goal

abbrev pub invariant-loop-i : goal.invariant-loop-i
invariant-loop-i l = take l.i l.second ≡ take l.i l.stack
