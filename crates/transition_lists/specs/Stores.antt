-- The area after single stores.
use Rattle.std.specs.Prelude.{ℕ, ◌+◌, ◌≤◌, ◌<◌, ◌≡◌, ◌&&◌, ◌||◌, List, eqb, length, get_or}
use Rattle.transitions.specs.Places.{transition_limit, firsts_at, entering_at, starts_at}
use Rattle.transitions.specs.Area.{leaves_of, nonterminal_of, enters_of, entering_of, precedes}

-- a transition by x from q to v is noted at v
pub record Noted (w : List ℕ) (q x v : ℕ) (w' : List ℕ) : Type 0 where
  pub long : length w' ≡ length w
  pub here : entering_of w' v ≡ x
  pub there : (u : ℕ) → u < 256 → (u ≡ v → ⊥) → entering_of w' u ≡ entering_of w u
  pub before : (u p : ℕ) → u < 256 → p < 256 → precedes w' u p ≡ (precedes w u p || (eqb v u && eqb q p))
  pub low : (i : ℕ) → i < entering_at → get_or w' i 0 ≡ get_or w i 0
  pub high : (i : ℕ) → starts_at ≤ i → get_or w' i 0 ≡ get_or w i 0

-- a transition by x from q to v is put down as number k
pub record Placed (w : List ℕ) (k q x v : ℕ) (w' : List ℕ) : Type 0 where
  pub long : length w' ≡ length w
  pub leaves : leaves_of w' k ≡ q
  pub symbol : nonterminal_of w' k ≡ x
  pub enters : enters_of w' k ≡ v
  pub old : (i : ℕ) → i < k → (leaves_of w' i ≡ leaves_of w i) × (nonterminal_of w' i ≡ nonterminal_of w i) × (enters_of w' i ≡ enters_of w i)
  pub high : (i : ℕ) → firsts_at ≤ i → get_or w' i 0 ≡ get_or w i 0

-- the cell v of state q and the symbol x, with t terminals, after k transitions
pub data Celled (t : ℕ) (w : List ℕ) (k q x v : ℕ) : List ℕ → ℕ → Type 0 where
  vacant : v ≡ 0 → Celled t w k q x v w k
  terminal : (w' : List ℕ) → (v ≡ 0 → ⊥) → x < t → Noted w q x v w' → Celled t w k q x v w' k
  many : (w' : List ℕ) → (v ≡ 0 → ⊥) → t ≤ x → transition_limit ≤ k → Noted w q x v w' → Celled t w k q x v w' (k + 1)
  listed : (w₁ w' : List ℕ) → (v ≡ 0 → ⊥) → t ≤ x → k < transition_limit → Noted w q x v w₁ → Placed w₁ k q x v w' → Celled t w k q x v w' (k + 1)
