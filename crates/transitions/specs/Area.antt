-- The 32-bit work area while the relations are walked: what stands where. Each reader has an answer for every list, 0 past its end.
use Rattle.std.specs.Prelude.{ℕ, ◌+◌, ◌*◌, ◌/◌, ◌%◌, ◌<◌, ◌≡◌, Bool, List, get_or}
use Rattle.sets.specs.Bit.{bit}
use Rattle.transitions.specs.Places.{leaves_at, nonterminals_at, enters_at, firsts_at, entering_at, predecessors_at, starts_at, lasts_at, productions_at, dots_at, links_at, occurrences_at, lengths_at}

-- nonterminal transition i (the paper's name move): the state that it leaves, its nonterminal, and the state that it enters
abbrev pub leaves_of : List ℕ → ℕ → ℕ
leaves_of w i = get_or w (leaves_at + i) 0

abbrev pub nonterminal_of : List ℕ → ℕ → ℕ
nonterminal_of w i = get_or w (nonterminals_at + i) 0

abbrev pub enters_of : List ℕ → ℕ → ℕ
enters_of w i = get_or w (enters_at + i) 0

-- the number of the first transition of state q; at 256 the number of all
abbrev pub first_of : List ℕ → ℕ → ℕ
first_of w q = get_or w (firsts_at + q) 0

-- the symbol under which state q is entered, 0 for state 0
abbrev pub entering_of : List ℕ → ℕ → ℕ
entering_of w q = get_or w (entering_at + q) 0

-- whether state p has a transition to state q
unfoldable pub precedes : List ℕ → ℕ → ℕ → Bool
precedes w q p = bit (get_or w (predecessors_at + 8 * q + p / 32) 0) (p % 32)

-- where the symbols of production r begin
abbrev pub starting_of : List ℕ → ℕ → ℕ
starting_of w r = get_or w (starts_at + r) 0

-- the occurrences of nonterminals with only nullable symbols behind them: the last one of nonterminal number j, plus 1, or 0;
-- the production and the dot of occurrence o; the one before it of the same nonterminal, plus 1, or 0; how many there are
abbrev pub last_of : List ℕ → ℕ → ℕ
last_of w j = get_or w (lasts_at + j) 0

abbrev pub production_of : List ℕ → ℕ → ℕ
production_of w o = get_or w (productions_at + o) 0

abbrev pub dot_of : List ℕ → ℕ → ℕ
dot_of w o = get_or w (dots_at + o) 0

abbrev pub link_of : List ℕ → ℕ → ℕ
link_of w o = get_or w (links_at + o) 0

abbrev pub occurrences_of : List ℕ → ℕ
occurrences_of w = get_or w occurrences_at 0

-- the shortest length of nonterminal number j
abbrev pub shortest_of : List ℕ → ℕ → ℕ
shortest_of w j = get_or w (lengths_at + j) 0

-- the first n of these are those of e
abbrev pub LengthsAre : List ℕ → List ℕ → ℕ → Type 0
LengthsAre w e n = (j : ℕ) → j < n → shortest_of w j ≡ get_or e j 0

-- r has the bits of two numbers, those of the first below
pub record Paired (w : List ℕ) (i r : ℕ) : Type 0 where
  pub bits : (m : ℕ) → m < 64 → bit r m ≡ bit (get_or w (i + m / 32) 0) (m % 32)
