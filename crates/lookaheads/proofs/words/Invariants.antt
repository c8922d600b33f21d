use Rattle.std.proofs.Common.{ℕ, ◌≡◌, ◌≤◌, ◌<◌, ◌-◌, true, length, get_or}
use Rattle.items.specs.Item.{item}
use Rattle.transitions.specs.Data.{Ordered, Holds}
use Rattle.grammar.specs.Card.{productions}
use Rattle.cells.specs.Words.{Live}
use Rattle.lookaheads.specs.LooksBack.{LooksBack}
use Rattle.lookaheads.proofs.words.Given as goal

abbrev pub invariant-loop-r : goal.invariant-loop-r
invariant-loop-r l =
    (length l.s ≡ 128) × (l.from ≤ 128) × Live (productions l.c) l.s l.live × ((k : ℕ) → Ordered l.c l.w k → (i : ℕ) → i < l.from → item l.live i ≡ true → Holds (get_or l.s i 0) (LooksBack l.c l.w l.z k l.q i))

abbrev pub decreases-loop-r : goal.decreases-loop-r
decreases-loop-r l = 128 - l.from
