-- The areas: rows moved up, entering symbols and the header in front of them, and zeros behind what stands in front.
use Rattle.std.specs.Prelude.{ℕ, ◌+◌, ◌≤◌, ◌<◌, ◌≡◌, List, length, get_or}
use Rattle.sets.specs.Lists.{covered}
use Rattle.grammar.specs.Card as card
use Rattle.tables.specs.Layout.{states, terminals, nonterminals, productions, left_at, length_at, header_size, entered_at, left_of, length_of, build}
use Rattle.areas.specs.Areas.{table_size, row_of}
use Rattle.cells.specs.Actions.{IsCell}

-- the table of n states whose working rows stand in the table area t, with the entering symbols e; and zeros behind it
unfoldable pub table_area : List ℕ → ℕ → List ℕ → List ℕ → List ℕ
table_area c n e t =
    covered table_size
    (build n (card.terminals c) (card.nonterminals c) (card.productions c) (card.left_of c) (card.length_of c) (λ q. get_or e q 0) (λ q x. get_or t (row_of c q + x) 0)) t

-- the working rows of n states are moved up by n places, and the n entering symbols e stand in front of them
pub record Inserted (c : List ℕ) (n : ℕ) (e t t' : List ℕ) : Type 0 where
  pub long : length t' ≡ length t
  pub entries : (q : ℕ) → q < n → get_or t' (entered_at (card.productions c) q) 0 ≡ get_or e q 0
  pub moved : (i : ℕ) → header_size (card.productions c) ≤ i → i < row_of c n → get_or t' (i + n) 0 ≡ get_or t i 0
  pub behind : (i : ℕ) → row_of c n + n ≤ i → get_or t' i 0 ≡ get_or t i 0

-- the left sides and lengths of the first k productions of the card c stand behind the sizes; other places are as they were
pub record Arrays (c : List ℕ) (k : ℕ) (t t' : List ℕ) : Type 0 where
  pub long : length t' ≡ length t
  pub lefts : (r : ℕ) → r < k → get_or t' (left_at r) 0 ≡ card.left_of c r
  pub lengths : (r : ℕ) → r < k → get_or t' (length_at (card.productions c) r) 0 ≡ card.length_of c r
  pub before : (i : ℕ) → i < left_at 0 → get_or t' i 0 ≡ get_or t i 0
  pub behind : (i : ℕ) → header_size (card.productions c) ≤ i → get_or t' i 0 ≡ get_or t i 0

-- the sizes, left sides and lengths of the card c, and n states, stand in front; the places behind the header are as they were
pub record Header (c : List ℕ) (n : ℕ) (t t' : List ℕ) : Type 0 where
  pub long : length t' ≡ length t
  pub count : states t' ≡ n
  pub sizes : (terminals t' ≡ card.terminals c) × (nonterminals t' ≡ card.nonterminals c) × (productions t' ≡ card.productions c)
  pub lefts : (r : ℕ) → r < card.productions c → left_of t' r ≡ card.left_of c r
  pub lengths : (r : ℕ) → r < card.productions c → length_of t' r ≡ card.length_of c r
  pub behind : (i : ℕ) → header_size (card.productions c) ≤ i → get_or t' i 0 ≡ get_or t i 0

-- the table area t holds a table of n states: the entering symbols E; in a terminal's column the one number that has A, in a nonterminal's the next state; then zeros
pub record Tabled (c : List ℕ) (n : ℕ) (next : ℕ → ℕ → ℕ) (A : ℕ → ℕ → ℕ → Type 0) (E : ℕ → ℕ) (t₀ t : List ℕ) : Type 0 where
  pub entered : ℕ → ℕ
  pub cell : ℕ → ℕ → ℕ
  pub area : t ≡ covered table_size (build n (card.terminals c) (card.nonterminals c) (card.productions c) (card.left_of c) (card.length_of c) entered cell) t₀
  pub entries : (q : ℕ) → q < n → entered q ≡ E q
  pub actions : (q m : ℕ) → q < n → m < card.terminals c → IsCell (A q m) (cell q m)
  pub nexts : (q x : ℕ) → q < n → card.terminals c ≤ x → x < card.terminals c + card.nonterminals c → cell q x ≡ next q x
