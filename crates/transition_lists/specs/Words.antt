-- The direct reads, word by word.
use Rattle.std.specs.Prelude.{ℕ, ◌+◌, ◌≤◌, ◌<◌, ◌≡◌, ◌≢◌, ◌⊎◌, true, List, length, get_or}
use Rattle.sets.specs.Bit.{bit}
use Rattle.transitions.specs.Places.{shifts_at}
use Rattle.transitions.specs.Data.{Holds, Shifts, Ends, Direct}

-- r is s, and x where v is not 0
pub record Joined (s x v r : ℕ) : Type 0 where
  pub only : (m : ℕ) → bit r m ≡ true → (bit s m ≡ true) ⊎ ((x ≡ m) × (v ≢ 0))
  pub kept : (m : ℕ) → bit s m ≡ true → bit r m ≡ true
  pub new : v ≢ 0 → bit r x ≡ true

-- m is the end marker, and transition i the one on the start from state 0
abbrev pub Ending : List ℕ → List ℕ → ℕ → ℕ → Type 0
Ending c w i m = (m ≡ 0) × Ends c w i

-- the terminals below x by which state q has a transition
pub record Marked (next : ℕ → ℕ → ℕ) (q x m : ℕ) : Type 0 where
  pub low : 0 < m
  pub high : m < x
  pub some : next q m ≢ 0

-- the words of the states below q stand from shifts_at on, those of the transitions below i from 0 on
pub record Copied (c w : List ℕ) (next : ℕ → ℕ → ℕ) (z₀ z : List ℕ) (q i : ℕ) : Type 0 where
  pub direct : (j : ℕ) → j < i → Holds (get_or z j 0) (Direct c w next j)
  pub shifts : (p : ℕ) → p < q → Holds (get_or z (shifts_at + p) 0) (Shifts c next p)
  pub long : length z ≡ length z₀
  pub between : (j : ℕ) → i ≤ j → j < shifts_at → get_or z j 0 ≡ get_or z₀ j 0
  pub rest : (j : ℕ) → shifts_at + q ≤ j → get_or z j 0 ≡ get_or z₀ j 0
