-- Paths of transitions along the symbols of a right side, and the set of states from which one leads to a state.
use Rattle.std.specs.Prelude.{ℕ, suc, ◌<◌, ◌≡◌, true, List}
use Rattle.items.specs.Item.{item}
use Rattle.transitions.specs.Occurrences.{symbol_at}
use Rattle.transitions.specs.Data.{Enters}

-- from state p at the dot i, the symbols f lead by the transitions G to state q at the dot d
pub data Path (G : ℕ → ℕ → ℕ → Type 0) (f : ℕ → ℕ) (d q : ℕ) : ℕ → ℕ → Type 0 where
  here : {i p : ℕ} → i ≡ d → p ≡ q → Path G f d q i p
  step : {i p : ℕ} (s : ℕ) → G p (f i) s → Path G f d q (suc i) s → Path G f d q i p

-- by the area, the first d symbols of production r lead from p to q
abbrev pub Leads : List ℕ → List ℕ → ℕ → ℕ → ℕ → ℕ → Type 0
Leads c w r d q p = Path (Enters w) (symbol_at c r) d q 0 p

-- the set s holds the states, 64 to a word, with P
pub record States (s : List ℕ) (P : ℕ → Type 0) : Type 0 where
  pub only : (p : ℕ) → p < 256 → item s p ≡ true → P p
  pub all : (p : ℕ) → p < 256 → P p → item s p ≡ true
