use Rattle.std.proofs.Common.{◌≡◌, ℕ, ◌≤◌, length, get_or}
use Rattle.grammar.specs.Card.{length_of, start_of}
use Rattle.transitions.specs.Places.{occurrences_at}
use Rattle.transitions.specs.Area.{shortest_of}
use Rattle.occurrences.specs.Gathers.{Gathered, Started}
use Rattle.occurrences.proofs.gather.Given as goal

abbrev pub invariant-loop-r : goal.invariant-loop-r
invariant-loop-r l =
    (l.s ≡ start_of l.c l.r) × Gathered l.c (shortest_of l.initial.w) l.w l.r (length_of l.c l.r) l.m × Started l.c l.w l.r × (length l.w ≡ length l.initial.w)
    × ((i : ℕ) → occurrences_at ≤ i → get_or l.w i 0 ≡ get_or l.initial.w i 0)
