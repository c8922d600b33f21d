-- A set of numbers as a list of words, 64 numbers to a word, of any length.
use Rattle.std.specs.Prelude.{◌≡◌, List, [], ◌∷◌, Bool, true, false, not, ◌&&◌, ◌||◌, eqb, ℕ, ◌*◌, ◌/◌, ◌%◌, ◌^◌, ◌≤◌, ◌<◌, length, get_or, set, replicate, Option, Some, None}
use Rattle.std.specs.Int.Bits.{bit_or}
use Rattle.sets.specs.Bit.{bit}

-- whether the number i is in the set
unfoldable pub item : List ℕ → ℕ → Bool
item ws i = bit (get_or ws (i / 64) 0) (i % 64)

-- the set, and the number i
unfoldable pub put : List ℕ → ℕ → List ℕ
put ws i = set ws (i / 64) (bit_or (get_or ws (i / 64) 0) (2 ^ (i % 64)))

-- word by word
unfoldable pub union : List ℕ → List ℕ → List ℕ
union (a ∷ l) (b ∷ m) = bit_or a b ∷ union l m
union (a ∷ l) [] = a ∷ l
union [] m = m

-- r, of n words, has no number
pub record Empty (n : ℕ) (r : List ℕ) : Type 0 where
  pub words : r ≡ replicate n 0
  pub items : (k : ℕ) → item r k ≡ false

-- r is s and the number i
pub record Put (s : List ℕ) (i : ℕ) (r : List ℕ) : Type 0 where
  pub words : r ≡ put s i
  pub items : (k : ℕ) → item r k ≡ (item s k || eqb i k)

-- r is s but the number i
abbrev pub Without : List ℕ → ℕ → List ℕ → Type 0
Without s i r = (k : ℕ) → item r k ≡ (item s k && not (eqb i k))

-- r is what is in a or in b
pub record Union (a b r : List ℕ) : Type 0 where
  pub words : r ≡ union a b
  pub items : (k : ℕ) → item r k ≡ (item a k || item b k)

-- i is the first number from `from` on that is in s
pub record First (s : List ℕ) (from i : ℕ) : Type 0 where
  pub within : i < 64 * length s
  pub least : from ≤ i
  pub here : item s i ≡ true
  pub gap : (k : ℕ) → from ≤ k → k < i → item s k ≡ false

-- r is the first number from `from` on that is in s; None where there is none
abbrev pub Next : List ℕ → ℕ → Option ℕ → Type 0
Next s from (Some i) = First s from i
Next s from None = (k : ℕ) → from ≤ k → item s k ≡ false
