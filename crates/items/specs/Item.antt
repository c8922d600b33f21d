-- "A state is the set of its items": a set of item numbers as a list of words, 64 items to a word.
use Rattle.std.specs.Prelude.{◌≡◌, List, Bool, true, false, ℕ, ◌+◌, ◌*◌, ◌≤◌, ◌<◌}
use Rattle.sets.specs.Bit.{Tells}
use Rattle.sets.specs.Words.{Empty as NoNumber}
unfoldable pub use Rattle.sets.specs.Words.{item, put, union}
pub use Rattle.sets.specs.Words.{Put, Union}

-- the words of an item set, and what the numbers of items are below
abbrev pub set_size : ℕ
set_size = 11

abbrev pub item_limit : ℕ
item_limit = 64 * set_size

-- r has no item
abbrev pub Empty : List ℕ → Type 0
Empty r = NoNumber set_size r

-- r says whether a and b are the same set: the same words, and the same items
pub record Same (a b : List ℕ) (r : Bool) : Type 0 where
  pub words : Tells r (a ≡ b)
  pub items : Tells r ((k : ℕ) → k < item_limit → item a k ≡ item b k)

-- r is the numbers after those that are in a and in b
pub record Shifted (a b r : List ℕ) : Type 0 where
  pub from : (k : ℕ) → item r k ≡ true → (i : ℕ) × (k ≡ i + 1) × (item a i ≡ true) × (item b i ≡ true)
  pub all : (i : ℕ) → i + 1 < item_limit → item a i ≡ true → item b i ≡ true → item r (i + 1) ≡ true

-- r is the first item from `from` on that is in s, or the limit
pub record Next (s : List ℕ) (from r : ℕ) : Type 0 where
  pub most : r ≤ item_limit
  pub least : from ≤ r
  pub here : r < item_limit → item s r ≡ true
  pub gap : (k : ℕ) → from ≤ k → k < r → item s k ≡ false
