use Rattle.std.proofs.Common.{◌*◌, ◌≤◌}
use Rattle.sets.proofs.WordLaws.{Gap}
use Rattle.sets.proofs.words.next.Given as goal

-- no number in the words below j
abbrev pub invariant-loop-j : goal.invariant-loop-j
invariant-loop-j g l = (l.from ≤ l.j * 64) × Gap l.s l.from (l.j * 64)
