-- The number of a set among the states: found, new, or too many; and the cells of a row that are skipped.
use Rattle.std.specs.Prelude.{true, false, List, ◌≡◌, ℕ, ◌+◌, ◌*◌, ◌≤◌, ◌<◌, get_or, Option, Some, None}
use Rattle.closures.specs.Areas.{slot, Kept, Added}
use Rattle.closures.specs.Sets.{Goes, Alike}
use Rattle.items.specs.Item.{set_size, item}

-- r is the first state from p on and below n, as far as word k tells: no state between has v as its word k
pub record Next (z : List ℕ) (n p k v r : ℕ) : Type 0 where
  pub most : r < n
  pub least : p ≤ r
  pub gap : (q : ℕ) → p ≤ q → q < r → get_or z (q * set_size + k) 0 ≡ v → ⊥

-- the next state worth a whole comparison, where there is one
abbrev pub Candidate : List ℕ → ℕ → ℕ → ℕ → ℕ → Option ℕ → Type 0
Candidate z n p k v (Some r) = Next z n p k v r
Candidate z n p k v None = (q : ℕ) → p ≤ q → q < n → get_or z (q * set_size + k) 0 ≡ v → ⊥

-- state r is the first of the n states that is s
pub record First (z : List ℕ) (n : ℕ) (s : List ℕ) (r : ℕ) : Type 0 where
  pub most : r < n
  pub here : slot z r ≡ s
  pub none : (q : ℕ) → q < r → Alike (slot z q) s → ⊥

-- the first of the n states that is s, where there is one
abbrev pub Found : List ℕ → ℕ → List ℕ → Option ℕ → Type 0
Found z n s (Some r) = First z n s r
Found z n s None = (q : ℕ) → q < n → Alike (slot z q) s → ⊥

-- s among the n states of z: found, or put down as state n in y, or there is no room for it
pub data Placed (z : List ℕ) (n : ℕ) (s : List ℕ) : List ℕ → Option ℕ → Type 0 where
  found : (p : ℕ) → p < n → slot z p ≡ s → Placed z n s z (Some p)
  fresh : (y : List ℕ) → n < 256 → ((q : ℕ) → q < n → Alike (slot z q) s → ⊥) → Added z n s y → Placed z n s y (Some n)
  crowded : n ≡ 256 → ((q : ℕ) → q < n → Alike (slot z q) s → ⊥) → Placed z n s z None

-- p is the number of the state to which s has a transition on x; None where there is no room for it
pub record Target (c s : List ℕ) (x : ℕ) (z : List ℕ) (n : ℕ) (y : List ℕ) (p : Option ℕ) : Type 0 where
  pub set : List ℕ
  pub goes : Goes c s x set
  pub placed : Placed z n set y p

-- y is the first symbol from x on that is in a, or `end`; the cells between, in the row at the place `at`, are 0 in t, all others as in t₀
pub record Skipped (t₀ : List ℕ) (at x end : ℕ) (a t : List ℕ) (y : ℕ) : Type 0 where
  pub least : x ≤ y
  pub most : y ≤ end
  pub here : y < end → item a y ≡ true
  pub gap : (k : ℕ) → x ≤ k → k < y → item a k ≡ false
  pub zeros : (k : ℕ) → x ≤ k → k < y → get_or t (at + k) 0 ≡ 0
  pub low : (k : ℕ) → k < at + x → get_or t k 0 ≡ get_or t₀ k 0
  pub high : Kept t₀ (at + y) t
