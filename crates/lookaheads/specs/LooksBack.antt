-- Lookback: which transitions give a complete production its lookaheads in a state.
use Rattle.std.specs.Prelude.{ℕ, ◌<◌, ◌≡◌, true, List, get_or}
use Rattle.sets.specs.Bit.{bit}
use Rattle.grammar.specs.Card.{productions, left_of, length_of}
use Rattle.transitions.specs.Area.{leaves_of, nonterminal_of}
use Rattle.transitions.specs.Data.{Holds}
use Rattle.relations.specs.Path.{Leads}

-- production r is complete in state q with the lookahead m: some transition on its left side, one of k, from whose state the right side leads to q,
-- has m in its set in the 64-bit area z
pub record LooksBack (c w z : List ℕ) (k q r m : ℕ) : Type 0 where
  pub transition : ℕ
  pub below : transition < k
  pub left : nonterminal_of w transition ≡ left_of c r
  pub leads : Leads c w r (length_of c r) q (leaves_of w transition)
  pub follows : bit (get_or z transition 0) m ≡ true

-- the words have the lookaheads of all productions in state q, one word each
abbrev pub Looks : List ℕ → List ℕ → List ℕ → ℕ → ℕ → List ℕ → Type 0
Looks c w z k q words = (r : ℕ) → r < productions c → Holds (get_or words r 0) (LooksBack c w z k q r)
