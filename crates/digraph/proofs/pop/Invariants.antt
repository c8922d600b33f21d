use Rattle.std.proofs.Common.{◌≤◌}
use Rattle.digraph.specs.Walk.{Popped}
use Rattle.digraph.proofs.pop.Given as goal

abbrev pub invariant-loop-p : goal.invariant-loop-p
invariant-loop-p l = (l.base ≤ l.p) × Popped l.k l.p l.depth l.s l.initial.z l.z
