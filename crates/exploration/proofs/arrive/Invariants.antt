-- The fresh readings stand at s, with the terminals from i on ahead; each turn takes a step.
use Rattle.std.proofs.Common.{length, drop}
use Rattle.exploration.specs.Reaches.{Reaches}
use Rattle.exploration.proofs.arrive.Given as goal

abbrev pub invariant-loop-i : goal.invariant-loop-i
invariant-loop-i l = Reaches l.table l.step_limit (length l.initial.second) l.line l.second (drop l.i l.line) l.s

abbrev pub decreases-loop-i : goal.decreases-loop-i
decreases-loop-i l = l.s.left
