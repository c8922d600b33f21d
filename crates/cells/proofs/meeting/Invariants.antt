use Rattle.std.proofs.Common.{◌≡◌, ◌≢◌, ◌↔◌, ℕ, ◌-◌, ◌<◌, ◌≤◌, true}
use Rattle.sets.specs.Bit.{bit}
use Rattle.cells.specs.Words.{Numbers}
use Rattle.cells.proofs.WordLaws.{Counted}
use Rattle.cells.proofs.meeting.Given as goal

abbrev pub invariant-loop-r : goal.invariant-loop-r
invariant-loop-r l =
    (l.from ≤ 128) × ((m s : ℕ) → s < 1024 → (bit l.shifts m ≡ true) ↔ (s ≢ 0) → Counted (Numbers l.from s l.words 0 m) l.seen l.twice m)

abbrev pub decreases-loop-r : goal.decreases-loop-r
decreases-loop-r l = 128 - l.from
