-- The numbers that stand at a state and a terminal, and the one number of a cell where no two of them meet.
use Rattle.std.specs.Prelude.{ℕ, ◌+◌, ◌<◌, ◌≡◌, ◌≢◌, List}
use Rattle.grammar.specs.Card.{terminals, productions}

-- "1 to Q−1 shifts to that state, 1,024+r reduces by rule r, 4,096 accepts": the numbers at state q and terminal m (the paper's mark).
-- `Look r m` says that production r is complete in q with the lookahead m; the state that the start leads to from state 0 accepts
pub data Act (c : List ℕ) (next : ℕ → ℕ → ℕ) (Look : ℕ → ℕ → Type 0) (q m : ℕ) : ℕ → Type 0 where
  shifts : 0 < m → m < terminals c → next q m ≢ 0 → Act c next Look q m (next q m)
  reduces : (r : ℕ) → r < productions c → Look r m → Act c next Look q m (1024 + r)
  accepts : m ≡ 0 → next 0 (terminals c) ≡ q → q ≢ 0 → Act c next Look q m 4096

-- a cell's number v is the one that has A, 0 where none has
pub record IsCell (A : ℕ → Type 0) (v : ℕ) : Type 0 where
  pub some : v ≢ 0 → A v
  pub only : (u : ℕ) → A u → u ≡ v
