-- Sets of states in four words.
use Rattle.std.specs.Prelude.{ℕ, ◌≤◌, ◌<◌, ◌≡◌, true, false, List}
use Rattle.items.specs.Item.{item}

-- r is the lowest state of s, or 256 where there is none
pub record Lowest (s : List ℕ) (r : ℕ) : Type 0 where
  pub most : r ≤ 256
  pub here : r < 256 → item s r ≡ true
  pub none : r ≡ 256 → (k : ℕ) → k < 256 → item s k ≡ false
