-- The states by number and their transitions: "A state is the set of its items. State 0 holds the added rule's first item. States are taken in
-- number order and symbols in ascending order; a new set gets the next number."
use Rattle.std.specs.Prelude.{cond, List, [], ◌∷◌, ◌≡◌, ℕ, ◌+◌, ◌≤◌, ◌<◌, ltb, length, get_or, set, Option, Some, None}
use Rattle.closures.specs.Areas.{slots_end, slot, Kept, Prepared}
use Rattle.closures.specs.Sets.{Stays, Goes, Start, Alike}
use Rattle.grammar.specs.Card.{terminals, nonterminals, grammar_of}
use Rattle.sets.specs.Lists.{each}
use Rattle.areas.specs.Areas.{table_size, row_of}
use Rattle.lr.specs.States.{Given, Taken, row_of as cells_of}
use Rattle.items.specs.Item.{item_limit}

-- the transition of state q on symbol x in the table t, 0 for none
unfoldable pub transition : List ℕ → List ℕ → ℕ → ℕ → ℕ
transition c t q x = cond (ltb x (terminals c + nonterminals c)) (get_or t (row_of c q + x) 0) 0

-- the transition v of the set s on x: none, or to one of the n states of z
pub data Cell (c z : List ℕ) (n : ℕ) (s : List ℕ) (x : ℕ) : ℕ → Type 0 where
  vacant : Stays c s x → Cell c z n s x 0
  leads : (p : ℕ) → p < n → Goes c s x (slot z p) → Cell c z n s x p

-- the n states are different sets
abbrev pub Apart : List ℕ → ℕ → Type 0
Apart z n = (p q : ℕ) → p < q → q < n → Alike (slot z p) (slot z q) → ⊥

-- the transitions of s on the symbols below x stand from the place `at` on; the states are those of z₀ and new ones; the table was t₀
pub record Row (c s z₀ : List ℕ) (n₀ : ℕ) (t₀ : List ℕ) (at : ℕ) (z : List ℕ) (n : ℕ) (t : List ℕ) (x : ℕ) : Type 0 where
  pub some : 0 < n
  pub most : n ≤ 256
  pub more : n₀ ≤ n
  pub old : (q : ℕ) → q < n₀ → slot z q ≡ slot z₀ q
  pub apart : Apart z n
  pub prepared : Prepared c z
  pub edge : get_or t (at + 0) 0 ≡ 0
  pub cells : (y : ℕ) → 0 < y → y < x → Cell c z n s y (get_or t (at + y) 0)
  pub given : Given n₀ (each x (λ y. get_or t (at + y) 0 ∷ [])) n
  pub low : (k : ℕ) → k < at → get_or t k 0 ≡ get_or t₀ k 0
  pub high : Kept t₀ (at + x) t
  pub behind : Kept z₀ slots_end z
  pub long : length t ≡ length t₀
  pub wide : length z ≡ length z₀

-- there are 256 states, and s has a transition on a symbol to a set that is none of them; the transitions before that are written
pub record Crowd (c s z₀ : List ℕ) (n₀ : ℕ) (t₀ : List ℕ) (at : ℕ) (z t : List ℕ) : Type 0 where
  pub symbol : ℕ
  pub above : 0 < symbol
  pub below : symbol < terminals c + nonterminals c
  pub new : List ℕ
  pub row : Row c s z₀ n₀ t₀ at z 256 t symbol
  pub goes : Goes c s symbol new
  pub none : (q : ℕ) → q < 256 → Alike (slot z q) new → ⊥

-- how a row ends: with the number of states now; None where more than 256 are needed
pub data Rowed (c s z₀ : List ℕ) (n₀ : ℕ) (t₀ : List ℕ) (at : ℕ) (z t : List ℕ) : Option ℕ → Type 0 where
  whole : (n : ℕ) → Row c s z₀ n₀ t₀ at z n t (terminals c + nonterminals c) → Rowed c s z₀ n₀ t₀ at z t (Some n)
  stopped : Crowd c s z₀ n₀ t₀ at z t → Rowed c s z₀ n₀ t₀ at z t None

-- there are n states, and the transitions of those below q stand in t; the areas were z₀ and t₀
pub record Table (c z₀ t₀ z : List ℕ) (n : ℕ) (t : List ℕ) (q : ℕ) : Type 0 where
  pub some : 0 < n
  pub most : n ≤ 256
  pub start : Start c (slot z 0)
  pub apart : Apart z n
  pub prepared : Prepared c z
  pub edge : (p : ℕ) → p < q → transition c t p 0 ≡ 0
  pub cells : (p y : ℕ) → p < q → 0 < y → y < terminals c + nonterminals c → Cell c z n (slot z p) y (transition c t p y)
  pub order : Taken (cells_of (grammar_of c) (transition c t)) q n
  pub low : (k : ℕ) → k < row_of c 0 → get_or t k 0 ≡ get_or t₀ k 0
  pub high : Kept t₀ (row_of c q) t
  pub behind : Kept z₀ slots_end z
  pub long : length t ≡ length t₀
  pub wide : length z ≡ length z₀

-- how the states end: n states and all their transitions; None where more than 256 are needed
pub data Stated (c z₀ t₀ z t : List ℕ) : Option ℕ → Type 0 where
  finished : (n : ℕ) → Table c z₀ t₀ z n t n → Stated c z₀ t₀ z t (Some n)
  beyond : (z₁ : List ℕ) (n : ℕ) (t₁ : List ℕ) (q : ℕ) → Table c z₀ t₀ z₁ n t₁ q → q < n → Crowd c (slot z₁ q) z₁ n (set t₁ (row_of c q) 0) (row_of c q) z t → Stated c z₀ t₀ z t None

-- what `states` leaves: the states, and every place behind those that it uses as it was
pub record Built (c t₀ z₀ w₀ t z w : List ℕ) (r : Option ℕ) : Type 0 where
  pub stated : Stated c z₀ t₀ z t r
  pub table_kept : Kept t₀ table_size t
  pub sets_kept : Kept z₀ slots_end z
  pub words_kept : Kept w₀ item_limit w
