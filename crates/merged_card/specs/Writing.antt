-- What the functions that write the merged card hand on to each other.
use Rattle.std.specs.Prelude.{ℕ, ◌+◌, ◌≤◌, ◌<◌, ◌≡◌, true, List, ◌++◌, length, take, drop, get_or}
use Rattle.grammar.specs.Card.{terminals, nonterminals, productions, symbols, symbols_at, sizes_ok, form_fault}
use Rattle.merged_card.specs.Merged.{moved, array, merged_card}
use Rattle.merged_card.specs.declared.Part.{Part}
use Rattle.merged_card.specs.declared.Pieces.{Pieces}
use Rattle.merged_card.specs.declared.Sizes.{Sizes}

-- the area with l from place i on
unfoldable pub written : ℕ → List ℕ → List ℕ → List ℕ
written i l area = take i area ++ (l ++ drop (i + length l) area)

-- number j of a part of the card c, a symbol of a card with t terminals, moved as the part says
abbrev pub number_of : List ℕ → ℕ → Part → ℕ → ℕ
number_of c t p j = moved t p.by (get_or c (p.from + j) 0)

-- moved so, the numbers of the part have 16 bits
abbrev pub Narrow : List ℕ → Part → Type 0
Narrow c p = (j : ℕ) → j < p.count → get_or c (p.from + j) 0 + p.by < 65536

-- the left sides of a card, the lengths of its right sides, and their symbols
abbrev pub left_part : List ℕ → ℕ → Part
left_part c k = record { from = 4; count = productions c; by = k }

abbrev pub length_part : List ℕ → Part
length_part c = record { from = 4 + productions c; count = productions c; by = 0 }

abbrev pub symbol_part : List ℕ → ℕ → Part
symbol_part c k = record { from = symbols_at c; count = symbols c; by = k }

-- the array that the pieces are
abbrev pub array_numbers : List ℕ → List ℕ → ℕ → Pieces → List ℕ
array_numbers a b t s = array s.x s.y s.first.count (number_of a t s.first) s.second.count (number_of b t s.second)

-- the parts lie in their cards, and have 16 bits when they have moved
pub record Inside (a b : List ℕ) (s : Pieces) : Type 0 where
  pub first : s.first.from + s.first.count ≤ length a
  pub second : s.second.from + s.second.count ≤ length b
  pub first_narrow : Narrow a s.first
  pub second_narrow : Narrow b s.second

-- the pieces are those of the array l
pub record Gives (a b : List ℕ) (s : Pieces) (l : List ℕ) : Type 0 where
  pub inside : Inside a b s
  pub numbers : array_numbers a b (terminals a) s ≡ l

-- s are N, P and L of the merged card
pub record SizesOf (a b : List ℕ) (s : Sizes) : Type 0 where
  pub n : s.n ≡ 1 + nonterminals a + nonterminals b
  pub p : s.p ≡ 2 + productions a + productions b
  pub l : s.l ≡ 2 + symbols a + symbols b

-- two cards past 4 to 9 with the same number of terminals
pub record Alike (a b : List ℕ) : Type 0 where
  pub first : form_fault a ≡ 0
  pub second : form_fault b ≡ 0
  pub terminals_same : terminals a ≡ terminals b

-- the merged card is within the limits, and an area of `room` numbers has room for it
pub record Merging (a b : List ℕ) (room : ℕ) : Type 0 where
  pub alike : Alike a b
  pub sized : sizes_ok (merged_card a b) ≡ true
  pub fits : length (merged_card a b) ≤ room
