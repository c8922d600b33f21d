-- The pass over the productions of the card: what the area holds when production r is passed from its end to the dot d.
use Rattle.std.specs.Prelude.{ℕ, ◌+◌, ◌-◌, ◌≤◌, ◌<◌, ◌≡◌, ◌⊎◌, List, length, get_or}
use Rattle.grammar.specs.Card.{terminals, nonterminals, productions, length_of, start_of}
use Rattle.transitions.specs.Places.{lasts_at, occurrences_at, halves_end}
use Rattle.transitions.specs.Area.{starting_of, last_of, production_of, dot_of, link_of, shortest_of, LengthsAre}
use Rattle.transitions.specs.Occurrences.{Occurs, occurring_of, Latest, Occurrences}

-- by the lengths e the occurrences in the productions below r, and in r from d on, are m
pub record Gathered (c : List ℕ) (e : ℕ → ℕ) (w : List ℕ) (r d m : ℕ) : Type 0 where
  pub most : m ≤ start_of c r + (length_of c r - d)
  pub occurs : (o : ℕ) → o < m → Occurs c e (production_of w o) (dot_of w o)
  pub all : (s i : ℕ) → Occurs c e s i → (s < r) ⊎ ((s ≡ r) × (d ≤ i)) → (o : ℕ) × (o < m) × (production_of w o ≡ s) × (dot_of w o ≡ i)
  pub last : (j : ℕ) → j < nonterminals c → Latest c w (terminals c + j) m (last_of w j)
  pub link : (o : ℕ) → o < m → Latest c w (occurring_of c w o) o (link_of w o)

-- w' is w but for the places from lasts_at to occurrences_at
pub record Between (w w' : List ℕ) : Type 0 where
  pub long : length w' ≡ length w
  pub low : (i : ℕ) → i < lasts_at → get_or w' i 0 ≡ get_or w i 0
  pub high : (i : ℕ) → occurrences_at ≤ i → get_or w' i 0 ≡ get_or w i 0

-- the starts of the productions below r
pub record Started (c w : List ℕ) (r : ℕ) : Type 0 where
  pub starts : (s : ℕ) → s < r → starting_of w s ≡ start_of c s

-- all m occurrences and all starts, by the shortest lengths of w
pub record Collected (c w w' : List ℕ) (m : ℕ) : Type 0 where
  pub gathered : Gathered c (shortest_of w) w' (productions c) (length_of c (productions c)) m
  pub started : Started c w' (productions c)
  pub long : length w' ≡ length w
  pub high : (i : ℕ) → occurrences_at ≤ i → get_or w' i 0 ≡ get_or w i 0

-- all that the card gives, for the shortest lengths e; places from halves_end on are as they were
pub record Prepared (c e w w' : List ℕ) : Type 0 where
  pub starts : Started c w' (productions c)
  pub occurrences : Occurrences c (shortest_of w') w'
  pub lengths : LengthsAre w' e 60
  pub long : length w' ≡ length w
  pub high : (i : ℕ) → halves_end ≤ i → get_or w' i 0 ≡ get_or w i 0
