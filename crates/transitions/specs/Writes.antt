-- What the writers of the 32-bit area leave.
use Rattle.std.specs.Prelude.{ℕ, ◌+◌, ◌≤◌, ◌<◌, ◌≡◌, ◌&&◌, ◌||◌, List, eqb, length, get_or}
use Rattle.transitions.specs.Places.{predecessors_at, starts_at, lengths_at}
use Rattle.transitions.specs.Area.{precedes, LengthsAre}

-- place i holds v, and each other place what it held
pub record Stored (w : List ℕ) (i v : ℕ) (w' : List ℕ) : Type 0 where
  pub long : length w' ≡ length w
  pub here : get_or w' i 0 ≡ v
  pub other : (j : ℕ) → (j ≡ i → ⊥) → get_or w' j 0 ≡ get_or w j 0

-- a transition from state p to state q is put down, with those before
pub record Preceded (w : List ℕ) (q p : ℕ) (w' : List ℕ) : Type 0 where
  pub long : length w' ≡ length w
  pub before : (u s : ℕ) → u < 256 → s < 256 → precedes w' u s ≡ (precedes w u s || (eqb q u && eqb p s))
  pub low : (i : ℕ) → i < predecessors_at → get_or w' i 0 ≡ get_or w i 0
  pub high : (i : ℕ) → starts_at ≤ i → get_or w' i 0 ≡ get_or w i 0

-- the shortest lengths of the first n nonterminals are those of e, and each other place holds what it held
pub record Measured (w e : List ℕ) (n : ℕ) (w' : List ℕ) : Type 0 where
  pub long : length w' ≡ length w
  pub lengths : LengthsAre w' e n
  pub low : (i : ℕ) → i < lengths_at → get_or w' i 0 ≡ get_or w i 0
  pub high : (i : ℕ) → lengths_at + n ≤ i → get_or w' i 0 ≡ get_or w i 0
