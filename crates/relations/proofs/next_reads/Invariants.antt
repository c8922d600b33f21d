use Rattle.std.proofs.Common.{ℕ, ◌≤◌, ◌<◌}
use Rattle.transitions.specs.Area.{nonterminal_of, shortest_of}
use Rattle.transitions.specs.Occurrences.{Nullable}
use Rattle.relations.proofs.next_reads.Given as goal

abbrev pub invariant-loop-i : goal.invariant-loop-i
invariant-loop-i l = (y : ℕ) → l.fn.cursor.at ≤ y → y < l.i → Nullable l.c (shortest_of l.w) (nonterminal_of l.w y) → ⊥
