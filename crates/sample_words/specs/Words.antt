-- How a sample is found: for each nonterminal the shortest string of terminals known so far, and the shortest known by a derivation that uses
-- the named production. Production after production lessens what is known of its left side, until none does. Only the functions cite this.
use Rattle.std.specs.Prelude.{ℕ, zero, suc, ◌+◌, ◌-◌, ◌≤◌, ◌<◌, min, ◌≡◌, Bool, true, false, not, ◌&&◌, cond, List, [], ◌∷◌, ltb, eqb, length, get_or, take, Option, Some, None}
use Rattle.sets.specs.Lists.{each, covered}
use Rattle.grammar.specs.Card.{terminals, left_of, right_of, length_of, symbol_of, start_of, grammar_of}
use Rattle.grammar.proofs.Yield.{Yields}
use Rattle.nonterminals.specs.Lessening.{mass}

-- the most terminals that a sample has
abbrev pub longest : ℕ
longest = 255

-- the place of nonterminal T + j in the tables: what is known of it, and, 60 places on, what is known by derivations that use the production
unfoldable pub key_of : Bool → ℕ → ℕ
key_of u j = cond u (60 + j) j

-- what symbol x counts; 256 stands for none: a terminal uses no production
unfoldable pub count_of : List ℕ → List ℕ → Bool → ℕ → ℕ
count_of c e u x = cond (ltb x (terminals c)) (cond u 256 1) (get_or e (key_of u (x - terminals c)) 0)

-- the least sum over a string, and the least of those where one symbol uses the production
unfoldable pub plain_sum : List ℕ → List ℕ → List ℕ → ℕ
plain_sum c e [] = 0
plain_sum c e (x ∷ l) = count_of c e false x + plain_sum c e l

unfoldable pub used_sum : List ℕ → List ℕ → List ℕ → ℕ
used_sum c e [] = 256
used_sum c e (x ∷ l) = min (count_of c e true x + plain_sum c e l) (count_of c e false x + used_sum c e l)

abbrev pub sum_of : List ℕ → List ℕ → Bool → List ℕ → ℕ
sum_of c e u l = cond u (used_sum c e l) (plain_sum c e l)

-- symbol i of production r
abbrev pub symbol_at : List ℕ → ℕ → ℕ → ℕ
symbol_at c r i = symbol_of c (start_of c r + i)

-- the sum of its first d symbols where the one at place p, if there is one, uses the production
unfoldable pub placed_sum : List ℕ → List ℕ → ℕ → ℕ → ℕ → ℕ
placed_sum c e r p zero = 0
placed_sum c e r p (suc d) = placed_sum c e r p d + count_of c e (eqb d p) (symbol_at c r d)

-- the place, or one behind the right side of r for none
abbrev pub place_of : List ℕ → ℕ → Option ℕ → ℕ
place_of c r (Some d) = d
place_of c r None = length_of c r

-- the least sum of the right side of r, and a place at which it comes
pub record Best (c e : List ℕ) (r : ℕ) (u : Bool) (sum place : ℕ) : Type 0 where
  pub value : sum ≡ sum_of c e u (right_of c r)
  pub placed : sum ≤ 255 → placed_sum c e r place (length_of c r) ≡ sum
  pub inside : u ≡ true → sum ≤ 255 → place < length_of c r

-- the terminals of a symbol, and those of the first d symbols of r
unfoldable pub piece_of : List ℕ → List ℕ → List (List ℕ) → Bool → ℕ → List ℕ
piece_of c e w u x = cond (ltb x (terminals c)) (x ∷ []) (take (get_or e (key_of u (x - terminals c)) 0) (get_or w (key_of u (x - terminals c)) []))

abbrev pub composed : List ℕ → List ℕ → List (List ℕ) → ℕ → ℕ → ℕ → List ℕ
composed c e w r p d = each d (λ i. piece_of c e w (eqb i p) (symbol_at c r i))

-- n is among the numbers
pub data Among (n : ℕ) : List ℕ → Type 0 where
  here : {l : List ℕ} → Among n (n ∷ l)
  there : {x : ℕ} {l : List ℕ} → Among n l → Among n (x ∷ l)

-- the row holds n terminals and zeros behind them; symbol x derives them, where u is true by a derivation that uses production m
pub record Known (c : List ℕ) (m : ℕ) (u : Bool) (x n : ℕ) (row : List ℕ) : Type 0 where
  pub line : List ℕ
  pub used : List ℕ
  pub yields : Yields (grammar_of c) (x ∷ []) used line
  pub named : u ≡ true → Among m used
  pub long : length line ≡ n
  pub held : row ≡ covered 255 line []

-- lengths, 256 for none
pub record Lengths (e : List ℕ) : Type 0 where
  pub long : length e ≡ 120
  pub most : (k : ℕ) → get_or e k 0 ≤ 256

-- each row has 255 bytes
abbrev pub Wide : List (List ℕ) → Type 0
Wide w = (k : ℕ) → k < 120 → length (get_or w k []) ≡ 255

-- lengths and words that are derived
pub record Words (c : List ℕ) (m : ℕ) (e : List ℕ) (w : List (List ℕ)) : Type 0 where
  pub lengths : Lengths e
  pub rows : length w ≡ 120
  pub wide : Wide w
  pub known : (u : Bool) (j : ℕ) → j < 60 → get_or e (key_of u j) 0 ≤ 255 → Known c m u (terminals c + j) (get_or e (key_of u j) 0) (get_or w (key_of u j) [])

-- the place of the left side of r
abbrev pub left_key : List ℕ → Bool → ℕ → ℕ
left_key c u r = key_of u (left_of c r - terminals c)

-- whether a symbol of r's right side has to use production m, where r's left side has to
abbrev pub within : ℕ → Bool → ℕ → Bool
within m u r = u && not (eqb r m)

-- the length of the left side of r is no more than the least sum of its right side
abbrev pub Still : List ℕ → ℕ → List ℕ → Bool → ℕ → Type 0
Still c m e u r = get_or e (left_key c u r) 0 ≤ sum_of c e (within m u r) (right_of c r)

-- e₀ lessened to e, or left as it is, and then P holds of it
pub data Lower (e₀ e : List ℕ) (P : List ℕ → Type 0) : Bool → Type 0 where
  same : e ≡ e₀ → P e → Lower e₀ e P false
  lower : mass e < mass e₀ → Lower e₀ e P true
