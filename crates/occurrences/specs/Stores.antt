-- The area after single stores.
use Rattle.std.specs.Prelude.{ℕ, ◌+◌, ◌≤◌, ◌<◌, ◌≡◌, List, length, get_or}
use Rattle.transitions.specs.Places.{lasts_at, occurrences_at}
use Rattle.transitions.specs.Area.{last_of, production_of, dot_of, link_of}

-- symbol d of production r, nonterminal number j, is put down as occurrence m
pub record Occurred (w : List ℕ) (m r d j : ℕ) (w' : List ℕ) : Type 0 where
  pub long : length w' ≡ length w
  pub production : production_of w' m ≡ r
  pub dot : dot_of w' m ≡ d
  pub link : link_of w' m ≡ last_of w j
  pub last : last_of w' j ≡ m + 1
  pub old : (o : ℕ) → o < m → (production_of w' o ≡ production_of w o) × (dot_of w' o ≡ dot_of w o) × (link_of w' o ≡ link_of w o)
  pub others : (u : ℕ) → u < 60 → (u ≡ j → ⊥) → last_of w' u ≡ last_of w u
  pub low : (i : ℕ) → i < lasts_at → get_or w' i 0 ≡ get_or w i 0
  pub high : (i : ℕ) → occurrences_at ≤ i → get_or w' i 0 ≡ get_or w i 0
