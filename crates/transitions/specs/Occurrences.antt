-- Where a nonterminal stands in a right side with only nullable symbols behind it, and the list of these places.
use Rattle.std.specs.Prelude.{ℕ, ◌+◌, ◌-◌, ◌≤◌, ◌<◌, ◌≡◌, List}
use Rattle.grammar.specs.Card.{terminals, nonterminals, productions, length_of, symbol_of, start_of}
use Rattle.transitions.specs.Area.{last_of, production_of, dot_of, link_of, occurrences_of}

-- symbol d of the right side of production r
unfoldable pub symbol_at : List ℕ → ℕ → ℕ → ℕ
symbol_at c r d = symbol_of c (start_of c r + d)

-- x is a nullable nonterminal (it derives the empty string), by the lengths e: e j for nonterminal number j
pub record Nullable (c : List ℕ) (e : ℕ → ℕ) (x : ℕ) : Type 0 where
  pub nonterminal : terminals c ≤ x
  pub empty : e (x - terminals c) ≡ 0

-- symbol d of production r is a nonterminal, and the symbols behind it are nullable
pub record Occurs (c : List ℕ) (e : ℕ → ℕ) (r d : ℕ) : Type 0 where
  pub production : r < productions c
  pub within : d < length_of c r
  pub nonterminal : terminals c ≤ symbol_at c r d
  pub tail : (i : ℕ) → d < i → i < length_of c r → Nullable c e (symbol_at c r i)

-- the nonterminal of occurrence o
unfoldable pub occurring_of : List ℕ → List ℕ → ℕ → ℕ
occurring_of c w o = symbol_at c (production_of w o) (dot_of w o)

-- a - 1 is the last occurrence of x below m, or there is none and a is 0
pub record Latest (c w : List ℕ) (x m a : ℕ) : Type 0 where
  pub most : a ≤ m
  pub here : 0 < a → occurring_of c w (a - 1) ≡ x
  pub gap : (o : ℕ) → a ≤ o → o < m → occurring_of c w o ≡ x → ⊥

-- the occurrences are listed, and those of one nonterminal linked
pub record Occurrences (c : List ℕ) (e : ℕ → ℕ) (w : List ℕ) : Type 0 where
  pub most : occurrences_of w ≤ 512
  pub occurs : (o : ℕ) → o < occurrences_of w → Occurs c e (production_of w o) (dot_of w o)
  pub all : (r d : ℕ) → Occurs c e r d → (o : ℕ) × (o < occurrences_of w) × (production_of w o ≡ r) × (dot_of w o ≡ d)
  pub last : (j : ℕ) → j < nonterminals c → Latest c w (terminals c + j) (occurrences_of w) (last_of w j)
  pub link : (o : ℕ) → o < occurrences_of w → Latest c w (occurring_of c w o) o (link_of w o)
