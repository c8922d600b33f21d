use Rattle.std.proofs.Common.{◌≤◌}
use Rattle.grammar.specs.Card.{length_of}
use Rattle.transitions.specs.Area.{shortest_of}
use Rattle.occurrences.specs.Gathers.{Gathered, Between}
use Rattle.occurrences.proofs.GatherLaws.{NullFrom}
use Rattle.occurrences.proofs.tail.Given as goal

abbrev pub invariant-loop-d : goal.invariant-loop-d
invariant-loop-d l =
    (l.d ≤ length_of l.c l.r) × Gathered l.c (shortest_of l.initial.w) l.w l.r l.d l.k × NullFrom l.c (shortest_of l.initial.w) l.r l.d × Between l.initial.w l.w
