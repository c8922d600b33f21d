use Rattle.std.proofs.Common.{ℕ, ◌≤◌, List}
use Rattle.grammar.specs.Card.{terminals}
use Rattle.transitions.specs.Next.{Numbered}
use Rattle.transition_lists.specs.Passes.{Passed, Come}
use Rattle.transition_lists.proofs.close.Given as goal

abbrev pub invariant-loop-u : goal.invariant-loop-u
invariant-loop-u l =
    (c : List ℕ) (next : ℕ → ℕ → ℕ) → Numbered c l.n next → 1 ≤ terminals c → Passed c next l.initial.w l.n 1 l.k l.n → Come c next l.initial.w l.w l.n 1 l.k l.u
