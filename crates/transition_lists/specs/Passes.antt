-- The pass over the rows of the table area: what the area holds when the cells before state q and symbol x are passed.
use Rattle.std.specs.Prelude.{ℕ, ◌+◌, ◌-◌, ◌≤◌, ◌<◌, ◌≡◌, ◌≢◌, true, List, length, get_or}
use Rattle.sets.specs.Bit.{count}
use Rattle.grammar.specs.Card.{terminals}
use Rattle.tables.specs.Conflicts.{Before}
use Rattle.transitions.specs.Places.{transition_limit, starts_at}
use Rattle.transitions.specs.Area.{leaves_of, nonterminal_of, enters_of, first_of, entering_of, precedes}
use Rattle.transitions.specs.Next.{moves, transition_count}

-- the nonterminal transitions passed are listed, k of them, in order
pub record Listing (c : List ℕ) (next : ℕ → ℕ → ℕ) (w : List ℕ) (q x k : ℕ) : Type 0 where
  pub place : (i : ℕ) → i < k → Before (leaves_of w i) (nonterminal_of w i) q x
  pub low : (i : ℕ) → i < k → terminals c ≤ nonterminal_of w i
  pub target : (i : ℕ) → i < k → enters_of w i ≡ next (leaves_of w i) (nonterminal_of w i)
  pub some : (i : ℕ) → i < k → next (leaves_of w i) (nonterminal_of w i) ≢ 0
  pub order : (i j : ℕ) → i < j → j < k → Before (leaves_of w i) (nonterminal_of w i) (leaves_of w j) (nonterminal_of w j)
  pub all : (p y : ℕ) → terminals c ≤ y → Before p y q x → next p y ≢ 0 → (i : ℕ) × (i < k) × (leaves_of w i ≡ p) × (nonterminal_of w i ≡ y)

-- the first transitions of the states below f
pub record Firsts (w : List ℕ) (k f : ℕ) : Type 0 where
  pub below : (u i : ℕ) → u < f → i < k → i < first_of w u → leaves_of w i < u
  pub from : (u i : ℕ) → u < f → i < k → leaves_of w i < u → i < first_of w u

-- the transitions passed are noted at the states that they enter
pub record Seen (next : ℕ → ℕ → ℕ) (w : List ℕ) (q x : ℕ) : Type 0 where
  pub symbol : (p y : ℕ) → Before p y q x → next p y ≢ 0 → entering_of w (next p y) ≡ y
  pub before : (p y : ℕ) → Before p y q x → next p y ≢ 0 → precedes w (next p y) p ≡ true
  pub only : (u p : ℕ) → u < 256 → p < 256 → precedes w u p ≡ true → (y : ℕ) × Before p y q x × (next p y ≡ u) × (u ≢ 0)
  pub start : entering_of w 0 ≡ 0

pub record Passed (c : List ℕ) (next : ℕ → ℕ → ℕ) (w : List ℕ) (q x k f : ℕ) : Type 0 where
  pub count : k ≡ transition_count c next q + count (moves c next q) (x - terminals c)
  pub listing : k ≤ transition_limit → Listing c next w q x k
  pub most : (u : ℕ) → u < f → first_of w u ≤ k
  pub firsts : k ≤ transition_limit → Firsts w k f
  pub seen : Seen next w q x

-- w' is w but for the places below starts_at
pub record Behind (w w' : List ℕ) : Type 0 where
  pub long : length w' ≡ length w
  pub high : (i : ℕ) → starts_at ≤ i → get_or w' i 0 ≡ get_or w i 0

-- the pass from w came so far
pub record Come (c : List ℕ) (next : ℕ → ℕ → ℕ) (w w' : List ℕ) (q x k f : ℕ) : Type 0 where
  pub passed : Passed c next w' q x k f
  pub rest : Behind w w'
