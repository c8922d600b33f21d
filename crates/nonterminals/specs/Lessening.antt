-- How the shortest lengths are found: each begins at the cap, and production after production lessens that of its left side to the sum
-- of its right side, until none does. Only the private functions cite this.
use Rattle.std.specs.Prelude.{ℕ, ◌+◌, ◌-◌, ◌^◌, ◌≤◌, ◌<◌, ◌≡◌, cond, ◌⊎◌, List, [], ◌∷◌, ltb, length, get_or, set}
use Rattle.std.specs.Int.Bits.{bit_or}
use Rattle.sets.specs.Bit.{Has}
use Rattle.grammar.specs.Card.{terminals, productions, left_of, right_of, grammar_of}
use Rattle.grammar.specs.Shortest.{length_cap, DerivesLength}
use Rattle.nonterminals.specs.Gathering.{join_of}

-- what symbol x counts: 1 for a terminal, and for a nonterminal its length so far
unfoldable pub count_of : List ℕ → List ℕ → ℕ → ℕ
count_of c e x = cond (ltb x (terminals c)) 1 (get_or e (x - terminals c) 0)

-- the sum over a string
unfoldable pub total_of : List ℕ → List ℕ → List ℕ → ℕ
total_of c e [] = 0
total_of c e (x ∷ l) = count_of c e x + total_of c e l

-- r is the sum as far as it is below m, and no less than m where the sum is not
pub record Below (sum m r : ℕ) : Type 0 where
  pub value : r < m → r ≡ sum
  pub far : m ≤ r → m ≤ sum

-- the lengths so far: below the cap a line of that length is derived
pub record Witnessed (c e : List ℕ) : Type 0 where
  pub long : length e ≡ 60
  pub most : (j : ℕ) → get_or e j 0 ≤ length_cap
  pub lines : (j : ℕ) → j < 60 → get_or e j 0 < length_cap → DerivesLength (grammar_of c) (terminals c + j) (get_or e j 0)

-- the number of the left side of production r
abbrev pub left_number : List ℕ → ℕ → ℕ
left_number c r = left_of c r - terminals c

-- the length of the left side of production r is no more than the sum of its right side
abbrev pub Still : List ℕ → List ℕ → ℕ → Type 0
Still c e r = get_or e (left_number c r) 0 ≤ total_of c e (right_of c r)

-- production r has lessened e at its left side, or had nothing to lessen
pub data Lessened (c e : List ℕ) (r : ℕ) : List ℕ → ℕ → Type 0 where
  kept : Still c e r → Lessened c e r e 0
  less : total_of c e (right_of c r) < get_or e (left_number c r) 0 → Lessened c e r (set e (left_number c r) (total_of c e (right_of c r))) (2 ^ left_number c r)

-- a nonterminal of production r's right side is in w, or w has bit 63, as in the first round
pub record Due (c : List ℕ) (w r : ℕ) : Type 0 where
  pub number : ℕ
  pub right : Has (bit_or (join_of c (right_of c r)) (2 ^ 63)) number
  pub lessened : Has w number

-- the same for a production that is due by w; another lessens nothing
pub data LessenedDue (c e : List ℕ) (r w : ℕ) (e' : List ℕ) (u : ℕ) : Type 0 where
  looked : Lessened c e r e' u → LessenedDue c e r w e' u
  passed_over : (Due c w r → ⊥) → e' ≡ e → u ≡ 0 → LessenedDue c e r w e' u

-- each production that could lessen e is due by w
pub record DueBy (c e : List ℕ) (w : ℕ) : Type 0 where
  pub witnessed : Witnessed c e
  pub still : (r : ℕ) → r < productions c → Still c e r ⊎ Due c w r

-- in the course of a round that began with w: the productions from n on are passed, and u was lessened
pub record LessenedTo (c : List ℕ) (w n : ℕ) (e : List ℕ) (u : ℕ) : Type 0 where
  pub witnessed : Witnessed c e
  pub passed : (r : ℕ) → r < productions c → n ≤ r → Still c e r ⊎ Due c u r
  pub ahead : (r : ℕ) → r < productions c → r < n → Still c e r ⊎ Due c (bit_or w u) r

-- the sum of all lengths
unfoldable pub mass : List ℕ → ℕ
mass [] = 0
mass (x ∷ l) = x + mass l

-- e is e₀, with nothing lessened, or lower
pub data Lower (e₀ e : List ℕ) (u : ℕ) : Type 0 where
  same : u ≡ 0 → e ≡ e₀ → Lower e₀ e u
  lower : mass e < mass e₀ → Lower e₀ e u
