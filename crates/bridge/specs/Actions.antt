-- The numbers at state q and terminal m by the sets z of k transitions.
use Rattle.std.specs.Prelude.{ℕ, List}
use Rattle.cells.specs.Actions.{Act}
use Rattle.lookaheads.specs.LooksBack.{LooksBack}

abbrev pub Acts : List ℕ → List ℕ → List ℕ → ℕ → (ℕ → ℕ → ℕ) → ℕ → ℕ → ℕ → Type 0
Acts c w z k next q m = Act c next (λ r a. LooksBack c w z k q r a) q m
