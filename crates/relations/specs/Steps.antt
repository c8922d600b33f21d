-- What the parts of a walk along edges give.
use Rattle.std.specs.Prelude.{ℕ, ◌-◌, ◌<◌, ◌≡◌, ◌⊎◌, true, List, Option, Some, None}
use Rattle.items.specs.Item.{item}
use Rattle.transitions.specs.Area.{leaves_of, nonterminal_of, production_of, dot_of}
use Rattle.transitions.specs.Data.{Enters}
use Rattle.relations.specs.Path.{Leads}

-- r is s and the states with a transition by x to q
pub record Adds (w s : List ℕ) (x q : ℕ) (r : List ℕ) : Type 0 where
  pub only : (p : ℕ) → p < 256 → item r p ≡ true → (item s p ≡ true) ⊎ Enters w p x q
  pub kept : (p : ℕ) → p < 256 → item s p ≡ true → item r p ≡ true
  pub all : (p : ℕ) → Enters w p x q → item r p ≡ true

-- by the area, p has a transition by x to a state of s
pub record Into (w s : List ℕ) (x p : ℕ) : Type 0 where
  pub state : ℕ
  pub member : item s state ≡ true
  pub enters : Enters w p x state

-- occurrence a - 1, where a is not 0, leads from p to q
pub record Opens (c w : List ℕ) (q a p : ℕ) : Type 0 where
  pub some : 0 < a
  pub leads : Leads c w (production_of w (a - 1)) (dot_of w (a - 1)) q p

-- transition r is the one of k from p by x
pub record Leaves (w : List ℕ) (k p x r : ℕ) : Type 0 where
  pub inside : r < k
  pub state : leaves_of w r ≡ p
  pub symbol : nonterminal_of w r ≡ x
  pub only : (y : ℕ) → y < k → leaves_of w y ≡ p → nonterminal_of w y ≡ x → y ≡ r

-- what is found is the number of the transition from p by x, one of k, or that there is none
abbrev pub Index : List ℕ → ℕ → ℕ → ℕ → Option ℕ → Type 0
Index w k p x (Some r) = Leaves w k p x r
Index w k p x None = (y : ℕ) → y < k → leaves_of w y ≡ p → nonterminal_of w y ≡ x → ⊥
