-- What a walk leaves in the area.
use Rattle.std.specs.Prelude.{◌≡◌, List, ℕ, ◌≤◌, length, get_or}
use Rattle.completion.specs.Completion.{Completed}
use Rattle.transitions.specs.Places.{shifts_at}

-- what stands at place i of an area
abbrev pub at : List ℕ → ℕ → ℕ
at z i = get_or z i 0

-- the walk along E made z' of z: the sets at the places 0, .., k - 1 are completed; from shifts_at on nothing has changed
pub record Walked (E : ℕ → ℕ → Type 0) (k : ℕ) (z z' : List ℕ) : Type 0 where
  pub sets : Completed E k (at z) (at z')
  pub rest : (i : ℕ) → shifts_at ≤ i → at z' i ≡ at z i
  pub size : length z' ≡ length z

-- the walk along R made an area of z, and the walk along I made z'' of that
pub record BothWalked (R I : ℕ → ℕ → Type 0) (k : ℕ) (z z'' : List ℕ) : Type 0 where
  pub between : List ℕ
  pub first : Walked R k z between
  pub second : Walked I k between z''
