-- What becomes of a card to which none of the refusals 4 to 10 applies.
use Rattle.std.specs.Prelude.{List, ℕ, ◌≤◌, Option, Some, None}
use Rattle.grammar.specs.Card.{grammar_of}
use Rattle.lr.specs.States.{States, MoreStates}
use Rattle.states.specs.States.{transition}

-- the numbered states of the grammar with their transitions in the table t; None is refusal 11, "more than 256 states"
pub data Outcome (c t : List ℕ) : Option ℕ → Type 0 where
  few : (n : ℕ) → n ≤ 256 → States (grammar_of c) n (transition c t) → Outcome c t (Some n)
  many : MoreStates (grammar_of c) 256 → Outcome c t None
