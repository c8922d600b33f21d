-- How a set is gathered: round after round each production adds to it, until nothing is new. Only the private functions cite this.
use Rattle.std.specs.Prelude.{◌≡◌, ℕ, ◌+◌, ◌-◌, ◌^◌, ◌<◌, List, [], ◌∷◌, cond, ltb, length, get_or}
use Rattle.std.specs.Int.Bits.{bit_or}
use Rattle.sets.specs.Bit.{Has, Within}
use Rattle.grammar.specs.Grammar.{Grammar}
use Rattle.grammar.specs.Card.{terminals, nonterminals, productions, left_of, right_of, grammar_of}
use Rattle.grammar.specs.Useful

-- what a set gathers
pub data Kind : Type 0 where
  Productive : Kind
  Reachable : Kind

-- x is what a set of the kind gathers
abbrev pub Means : Grammar → Kind → ℕ → Type 0
Means g Productive x = Useful.Productive g x
Means g Reachable x = Useful.Reachable g x

-- symbol x as a set: a nonterminal's bit, and none for a terminal
unfoldable pub word_of : List ℕ → ℕ → ℕ
word_of c x = cond (ltb x (terminals c)) 0 (2 ^ (x - terminals c))

-- the symbols of a string
unfoldable pub join_of : List ℕ → List ℕ → ℕ
join_of c [] = 0
join_of c (x ∷ l) = bit_or (word_of c x) (join_of c l)

-- v has the word f of each of the first n productions
pub record Words (f : ℕ → ℕ) (n : ℕ) (v : List ℕ) : Type 0 where
  pub long : length v ≡ 128
  pub words : (r : ℕ) → r < n → get_or v r 0 ≡ f r

-- their left sides, and their right sides, as sets
abbrev pub Lefts : List ℕ → ℕ → List ℕ → Type 0
Lefts c n v = Words (λ r. word_of c (left_of c r)) n v

abbrev pub Rights : List ℕ → ℕ → List ℕ → Type 0
Rights c n v = Words (λ r. join_of c (right_of c r)) n v

-- what must be in a set for production r to add to it, and what it adds
abbrev pub needs_of : List ℕ → Kind → ℕ → ℕ
needs_of c Productive r = join_of c (right_of c r)
needs_of c Reachable r = word_of c (left_of c r)

abbrev pub gives_of : List ℕ → Kind → ℕ → ℕ
gives_of c Productive r = word_of c (left_of c r)
gives_of c Reachable r = join_of c (right_of c r)

-- only nonterminals that are meant are in w
abbrev pub Sound : List ℕ → Kind → ℕ → Type 0
Sound c k w = (j : ℕ) → Has w j → (j < nonterminals c) × Means (grammar_of c) k (terminals c + j)

-- after the first n productions: v has w, only what is meant, and what these add to w
pub record Round (c : List ℕ) (k : Kind) (w n v : ℕ) : Type 0 where
  pub more : Within w v
  pub sound : Sound c k v
  pub all : (r : ℕ) → r < n → Within (needs_of c k r) w → Within (gives_of c k r) v

-- v has w, only what is meant, and all that the productions add to v
pub record Settled (c : List ℕ) (k : Kind) (w v : ℕ) : Type 0 where
  pub more : Within w v
  pub still : Round c k v (productions c) v
