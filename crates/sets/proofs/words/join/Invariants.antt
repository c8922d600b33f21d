use Rattle.std.proofs.Common.{◌≡◌, ℕ, ◌<◌, ◌≤◌, length, get_or, bit_or}
use Rattle.sets.proofs.words.join.Given as goal

-- the words below i are joined, and the others are those of a
abbrev pub invariant-loop-i : goal.invariant-loop-i
invariant-loop-i g l =
    (length l.t ≡ g.row.N) × ((k : ℕ) → k < l.i → get_or l.t k 0 ≡ bit_or (get_or l.fn.a k 0) (get_or l.b k 0)) × ((k : ℕ) → l.i ≤ k → get_or l.t k 0 ≡ get_or l.fn.a k 0)
