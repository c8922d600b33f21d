use Rattle.std.proofs.Common.{ℕ, ◌<◌, get_or}
use Rattle.machine.specs.Restricted.{Open}
use Rattle.scans.proofs.search.Given as goal

abbrev pub invariant-loop-i : goal.invariant-loop-i
invariant-loop-i l = (j : ℕ) → j < l.i → Open l.closed (get_or l.input j 0)
