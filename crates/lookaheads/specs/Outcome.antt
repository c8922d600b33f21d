-- What the writing of all cells asks and gives.
use Rattle.std.specs.Prelude.{ℕ, ◌+◌, ◌≤◌, ◌<◌, ◌≡◌, true, List, [], length, get_or, Option, Some, None, Result, Ok, Err}
use Rattle.sets.specs.Bit.{bit}
use Rattle.grammar.specs.Card as card
use Rattle.areas.specs.Areas.{table_size, words_size, halves_size, row_of}
use Rattle.transitions.specs.Places.{shifts_at}
use Rattle.transitions.specs.Area.{entering_of}
use Rattle.transitions.specs.Next.{next_of, Numbered}
use Rattle.transitions.specs.Data.{Ordered, Holds, Shifts}
use Rattle.tables.specs.Conflicts.{Lowest, Conflict as FirstConflict}
use Rattle.cells.specs.Actions.{Act, IsCell}
use Rattle.sets.specs.Lists.{covered}
use Rattle.cells.specs.Areas.{table_area, Tabled}
use Rattle.lookaheads.specs.LooksBack.{LooksBack}
use Rattle.lookaheads.specs.declared.Conflict.{Conflict}

-- what must stand in the areas: the transitions of n states in the table area t, their lists and the entering symbols in w, in z the terminals
-- that each state shifts and the set of each transition
pub record Stage (c t w z : List ℕ) (n : ℕ) : Type 0 where
  pub transitions : ℕ
  pub ordered : Ordered c w transitions
  pub numbered : Numbered c n (next_of c t n)
  pub shifts : (q : ℕ) → q < n → Holds (get_or z (shifts_at + q) 0) (Shifts c (next_of c t n) q)
  pub terminals : (i m : ℕ) → i < transitions → bit (get_or z i 0) m ≡ true → m < card.terminals c
  pub entering : (q : ℕ) → q < n → entering_of w q < card.terminals c + card.nonterminals c
  pub table_long : table_size ≤ length t
  pub words_long : words_size ≤ length z
  pub halves_long : halves_size ≤ length w

-- the numbers at state q and terminal m, by the areas as they stood at the start
abbrev pub Stands : List ℕ → List ℕ → List ℕ → List ℕ → ℕ → ℕ → ℕ → ℕ → ℕ → Type 0
Stands c t w z n k q m v = Act c (next_of c t n) (LooksBack c w z k q) q m v

-- t' is t with the rows of the states below q written: in a terminal's column the one number that has A; other cells and the places behind are as they were
pub record Rows (c : List ℕ) (A : ℕ → ℕ → ℕ → Type 0) (q : ℕ) (t t' : List ℕ) : Type 0 where
  pub long : length t' ≡ length t
  pub cells : (p m : ℕ) → p < q → m < card.terminals c → IsCell (A p m) (get_or t' (row_of c p + m) 0)
  pub others : (p x : ℕ) → p < q → card.terminals c ≤ x → x < card.terminals c + card.nonterminals c → get_or t' (row_of c p + x) 0 ≡ get_or t (row_of c p + x) 0
  pub behind : (i : ℕ) → row_of c q ≤ i → get_or t' i 0 ≡ get_or t i 0

-- no number below n is in the set s
abbrev pub NoneBelow : ℕ → ℕ → Type 0
NoneBelow s n = (i : ℕ) → i < n → bit s i ≡ true → ⊥

-- the lowest number of the set s that is below n
abbrev pub Met : ℕ → ℕ → Option ℕ → Type 0
Met s n (Some m) = (m < n) × (bit s m ≡ true) × NoneBelow s m
Met s n None = NoneBelow s n

-- r names the cell (q, m) and the two lowest numbers there
pub record Named (A : ℕ → Type 0) (q m : ℕ) (r : Conflict) : Type 0 where
  pub state : r.state ≡ q
  pub terminal : r.terminal ≡ m
  pub numbers : Lowest A r.lower r.upper

-- r is the first cell where two numbers meet, with the two lowest numbers there
abbrev pub First : List ℕ → (ℕ → ℕ → ℕ → Type 0) → ℕ → Conflict → Type 0
First c A n r = FirstConflict A n (card.terminals c) r.state r.terminal r.lower r.upper

-- all rows are written, or two numbers meet in a cell
abbrev pub Answer : List ℕ → (ℕ → ℕ → ℕ → Type 0) → ℕ → List ℕ → List ℕ → Result (Unit {0}) Conflict → Type 0
Answer c A n t t' (Ok _) = Rows c A n t t'
Answer c A n t t' (Err r) = First c A n r

-- the length and the places from `table_size` on never change
pub record Searched (c : List ℕ) (A : ℕ → ℕ → ℕ → Type 0) (n : ℕ) (t t' : List ℕ) (r : Result (Unit {0}) Conflict) : Type 0 where
  pub answer : Answer c A n t t' r
  pub long : length t' ≡ length t
  pub beyond : (i : ℕ) → table_size ≤ i → get_or t' i 0 ≡ get_or t i 0

-- what is left of the table area, whose rows are written or where two numbers met: the table with the entering symbols e, or zeros
abbrev pub Closed : List ℕ → List ℕ → ℕ → List ℕ → List ℕ → Result (Unit {0}) Conflict → Type 0
Closed c e n t t' (Ok _) = t' ≡ table_area c n e t
Closed c e n t t' (Err r) = t' ≡ covered table_size [] t

-- the table, or refusal 13 with the table area zero
abbrev pub Outcome : List ℕ → (ℕ → ℕ → ℕ) → (ℕ → ℕ → ℕ → Type 0) → (ℕ → ℕ) → ℕ → List ℕ → List ℕ → Result (Unit {0}) Conflict → Type 0
Outcome c next A E n t t' (Ok _) = Tabled c n next A E t t'
Outcome c next A E n t t' (Err r) = First c A n r × (t' ≡ covered table_size [] t)

-- and both work areas zero
pub record Filled (c t w z : List ℕ) (n : ℕ) (t' w' z' : List ℕ) (r : Result (Unit {0}) Conflict) : Type 0 where
  pub outcome : (k : ℕ) → Ordered c w k → Outcome c (next_of c t n) (Stands c t w z n k) (entering_of w) n t t' r
  pub words : z' ≡ covered words_size [] z
  pub halves : w' ≡ covered halves_size [] w
