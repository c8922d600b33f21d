-- Two numbers that meet in a cell, over any numbers A at a state and a terminal (the paper's mark).
use Rattle.std.specs.Prelude.{ℕ, ◌≤◌, ◌<◌, ◌≡◌, ◌≢◌}

-- at most one number has A
pub record Single (A : ℕ → Type 0) : Type 0 where
  pub only : (v w : ℕ) → A v → A w → v ≡ w

-- v and w are the two lowest numbers that have A
pub record Lowest (A : ℕ → Type 0) (v w : ℕ) : Type 0 where
  pub first : A v
  pub second : A w
  pub lower : v < w
  pub lowest : (u : ℕ) → A u → u ≢ v → w ≤ u

-- (q', m') comes before (q, m): a lower state, or the same and a lower symbol
pub data Before (q' m' q m : ℕ) : Type 0 where
  lower_state : q' < q → Before q' m' q m
  lower_symbol : q' ≡ q → m' < m → Before q' m' q m

-- refusal 13, "two actions meet in a cell": "the lowest state and, in it, the lowest mark, then the two lowest cell values that meet, lower first"
pub record Conflict (A : ℕ → ℕ → ℕ → Type 0) (count terminals q m v w : ℕ) : Type 0 where
  pub state : q < count
  pub terminal : m < terminals
  pub numbers : Lowest (A q m) v w
  pub before : (q' m' : ℕ) → q' < count → m' < terminals → Before q' m' q m → Single (A q' m')
