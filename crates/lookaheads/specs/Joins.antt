-- What the parts of a lookahead give.
use Rattle.std.specs.Prelude.{ℕ, ◌+◌, ◌-◌, ◌*◌, ◌<◌, ◌≡◌, ◌≢◌, ◌⊎◌, true, List, get_or}
use Rattle.sets.specs.Bit.{bit}
use Rattle.items.specs.Item.{item}
use Rattle.grammar.specs.Card.{productions, left_of, length_of}
use Rattle.transitions.specs.Occurrences.{symbol_at}
use Rattle.transitions.specs.Area.{leaves_of, nonterminal_of, entering_of}

-- the transition from state p by the nonterminal x, one of k, has m in its set
pub record Follows (w z : List ℕ) (k p x m : ℕ) : Type 0 where
  pub transition : ℕ
  pub below : transition < k
  pub leaves : leaves_of w transition ≡ p
  pub symbol : nonterminal_of w transition ≡ x
  pub member : bit (get_or z transition 0) m ≡ true

-- r is s and the set of that transition
pub record Joins (w z : List ℕ) (k p x s r : ℕ) : Type 0 where
  pub only : (m : ℕ) → bit r m ≡ true → (bit s m ≡ true) ⊎ Follows w z k p x m
  pub kept : (m : ℕ) → bit s m ≡ true → bit r m ≡ true
  pub all : (m : ℕ) → Follows w z k p x m → bit r m ≡ true

-- production r is kept under v: its last symbol, or 128 and its left side where its right side is empty
pub record Key (c : List ℕ) (r v : ℕ) : Type 0 where
  pub none : length_of c r ≡ 0 → v ≡ 128 + left_of c r
  pub some : 0 < length_of c r → v ≡ symbol_at c r (length_of c r - 1)

-- s has at least the productions below n, each under its key: production r under v is number 128 * v + r
abbrev pub Keyed : List ℕ → List ℕ → ℕ → Type 0
Keyed c s n = (r v : ℕ) → r < n → Key c r v → item s (128 * v + r) ≡ true

-- t has what is in s and the productions that are kept under v, a key below 256
abbrev pub Added : List ℕ → ℕ → List ℕ → List ℕ → Type 0
Added keyed v s t = (r : ℕ) → r < 128 → (item s r ≡ true) ⊎ ((v < 256) × (item keyed (128 * v + r) ≡ true)) → item t r ≡ true

-- the set `live` has at least the productions that end with the symbol under which state q is entered, and the empty ones of the nonterminals
-- that have a transition from q, one of k
pub record Candidates (c w : List ℕ) (k q : ℕ) (live : List ℕ) : Type 0 where
  pub ending : (r : ℕ) → r < productions c → 0 < length_of c r → symbol_at c r (length_of c r - 1) ≡ entering_of w q → item live r ≡ true
  pub empty : (r i : ℕ) → r < productions c → length_of c r ≡ 0 → i < k → leaves_of w i ≡ q → nonterminal_of w i ≡ left_of c r → item live r ≡ true

-- state q accepts at m: it is the one, not 0, that the start leads to from state 0, and m is the end marker
pub record Accepts (start q m : ℕ) : Type 0 where
  pub end_marker : m ≡ 0
  pub target : start ≡ q
  pub some : q ≢ 0
