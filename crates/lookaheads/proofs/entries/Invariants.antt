use Rattle.std.proofs.Common.{ℕ, ◌≡◌, ◌<◌, length, get_or}
use Rattle.transitions.specs.Area.{entering_of}
use Rattle.lookaheads.proofs.entries.Given as goal

abbrev pub invariant-loop-q : goal.invariant-loop-q
invariant-loop-q l = (length l.s ≡ 256) × ((p : ℕ) → p < l.q → get_or l.s p 0 ≡ entering_of l.w p)
