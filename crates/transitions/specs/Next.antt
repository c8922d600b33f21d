-- The transitions that stand in the table area, and what holds of those of numbered states.
use Rattle.std.specs.Prelude.{ℕ, zero, suc, ◌+◌, ◌≤◌, ◌<◌, ◌≡◌, ◌≢◌, Bool, not, cond, ◌&&◌, List, ltb, eqb, get_or}
use Rattle.sets.specs.Bit.{count}
use Rattle.grammar.specs.Card.{terminals, nonterminals}
use Rattle.areas.specs.Areas.{row_of}

-- the state to which state q, one of n, goes by the symbol x; 0 where there is none
unfoldable pub next_of : List ℕ → List ℕ → ℕ → ℕ → ℕ → ℕ
next_of c t n q x = cond (ltb q n && ltb x (terminals c + nonterminals c)) (get_or t (row_of c q + x) 0) 0

-- a transition by x leads from p to q; state 0 is never entered
pub record Goes (next : ℕ → ℕ → ℕ) (p x q : ℕ) : Type 0 where
  pub target : next p x ≡ q
  pub some : q ≢ 0

-- what the walks need of the states of a card, n of them
pub record Numbered (c : List ℕ) (n : ℕ) (next : ℕ → ℕ → ℕ) : Type 0 where
  pub some : 0 < n
  pub most : n ≤ 256
  pub from : (p x : ℕ) → next p x ≢ 0 → p < n
  pub target : (p x : ℕ) → next p x < n
  pub low : (p x : ℕ) → next p x ≢ 0 → 0 < x
  pub high : (p x : ℕ) → next p x ≢ 0 → x < terminals c + nonterminals c
  -- the transitions into one state are on one symbol
  pub one : (p x q y : ℕ) → next p x ≢ 0 → next p x ≡ next q y → x ≡ y

-- whether state q has a transition by nonterminal number j
abbrev pub moves : List ℕ → (ℕ → ℕ → ℕ) → ℕ → ℕ → Bool
moves c next q j = not (eqb (next q (terminals c + j)) 0)

-- how many nonterminal transitions the states below q have, the number that refusal 12 tests
unfoldable pub transition_count : List ℕ → (ℕ → ℕ → ℕ) → ℕ → ℕ
transition_count c next zero = 0
transition_count c next (suc q) = transition_count c next q + count (moves c next q) (nonterminals c)
