-- The card that two cards are merged into: "a new start, the names of the first, those of the second; two rules from the new start to the old
-- starts, in that order, then both rule lists."
use Rattle.std.specs.Prelude.{ℕ, ◌+◌, List, [], ◌∷◌, ◌++◌, cond, ltb}
use Rattle.sets.specs.Lists.{each}
use Rattle.grammar.specs.Card.{terminals, nonterminals, productions, symbols, left_of, length_of, symbol_of}

-- the symbol x of a card of t terminals, where k nonterminals come before its own: a terminal stays, a nonterminal moves up by k
unfoldable pub moved : ℕ → ℕ → ℕ → ℕ
moved t k x = cond (ltb x t) x (x + k)

-- an array of the merged card: x and y for its two new productions, then n numbers for the first card's, then m for the second's
abbrev pub array : ℕ → ℕ → ℕ → (ℕ → ℕ) → ℕ → (ℕ → ℕ) → List ℕ
array x y n f m g = x ∷ y ∷ (each n (λ i. f i ∷ []) ++ each m (λ j. g j ∷ []))

module _ (a b : List ℕ) where
  -- a symbol of the first card in the merged one, whose new start is T; a symbol of the second
  abbrev pub of_first : ℕ → ℕ
  of_first x = moved (terminals a) 1 x

  abbrev pub of_second : ℕ → ℕ
  of_second x = moved (terminals b) (1 + nonterminals a) x

  abbrev pub merged_sizes : List ℕ
  merged_sizes = terminals a ∷ (1 + nonterminals a + nonterminals b) ∷ (2 + productions a + productions b) ∷ (2 + symbols a + symbols b) ∷ []

  -- the new start is the left side of the two new productions
  abbrev pub merged_lefts : List ℕ
  merged_lefts = array (terminals a) (terminals a) (productions a) (λ r. of_first (left_of a r)) (productions b) (λ r. of_second (left_of b r))

  abbrev pub merged_lengths : List ℕ
  merged_lengths = array 1 1 (productions a) (length_of a) (productions b) (length_of b)

  -- their right sides are the two old starts
  abbrev pub merged_symbols : List ℕ
  merged_symbols = array (of_first (terminals a)) (of_second (terminals b)) (symbols a) (λ k. of_first (symbol_of a k)) (symbols b) (λ k. of_second (symbol_of b k))

  unfoldable pub merged_card : List ℕ
  merged_card = merged_sizes ++ (merged_lefts ++ (merged_lengths ++ merged_symbols))
