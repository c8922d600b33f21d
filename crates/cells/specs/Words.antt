-- What the words of one state say: for each production its lookaheads in the state, bit m for terminal m, and where the state accepts.
use Rattle.std.specs.Prelude.{ℕ, ◌+◌, ◌≤◌, ◌<◌, ◌≡◌, ◌≢◌, true, false, List, length, get_or, Option, Some, None}
use Rattle.sets.specs.Bit.{bit}
use Rattle.items.specs.Item.{item}

-- the numbers that stand at terminal m: s is the state that m is shifted to, 0 where it is not, p the number of productions
pub data Numbers (p s : ℕ) (words : List ℕ) (accept m : ℕ) : ℕ → Type 0 where
  shifts : s ≢ 0 → Numbers p s words accept m s
  reduces : (r : ℕ) → r < p → bit (get_or words r 0) m ≡ true → Numbers p s words accept m (1024 + r)
  accepts : bit accept m ≡ true → Numbers p s words accept m 4096

-- a production that has lookaheads is one of p, and it is in the set `live`
pub record Live (p : ℕ) (words live : List ℕ) : Type 0 where
  pub none : (r : ℕ) → item live r ≡ false → get_or words r 0 ≡ 0
  pub beyond : (r : ℕ) → p ≤ r → get_or words r 0 ≡ 0

-- two numbers have A
pub record Two (A : ℕ → Type 0) : Type 0 where
  pub lower : ℕ
  pub upper : ℕ
  pub first : A lower
  pub second : A upper
  pub order : lower < upper

-- no production from `start` on and below `to` has the lookahead m
abbrev pub NoneHas : List ℕ → ℕ → ℕ → ℕ → Type 0
NoneHas words m start to = (k : ℕ) → start ≤ k → k < to → bit (get_or words k 0) m ≡ true → ⊥

-- the lowest production from `start` on, one of p, that has the lookahead m
abbrev pub Sought : ℕ → List ℕ → ℕ → ℕ → Option ℕ → Type 0
Sought p words m start (Some r) = (start ≤ r) × (r < p) × (bit (get_or words r 0) m ≡ true) × NoneHas words m start r
Sought p words m start None = NoneHas words m start p

-- the number that reduces by a production, and the one that accepts where there is none
abbrev pub number_of : Option ℕ → ℕ
number_of (Some r) = 1024 + r
number_of None = 4096

-- v was put at the places behind b that the word has
pub record Put (b word v : ℕ) (t t' : List ℕ) : Type 0 where
  pub long : length t' ≡ length t
  pub here : (m : ℕ) → bit word m ≡ true → get_or t' (b + m) 0 ≡ v
  pub away : (m : ℕ) → bit word m ≡ false → get_or t' (b + m) 0 ≡ get_or t (b + m) 0
  pub before : (i : ℕ) → i < b → get_or t' i 0 ≡ get_or t i 0

-- what stands at terminal m, where s stood, when the numbers of all words are written
pub data Written (p s : ℕ) (words : List ℕ) (accept m : ℕ) : ℕ → Type 0 where
  kept : ((r : ℕ) → r < p → bit (get_or words r 0) m ≡ false) → bit accept m ≡ false → Written p s words accept m s
  reduced : (r : ℕ) → r < p → bit (get_or words r 0) m ≡ true → Written p s words accept m (1024 + r)
  accepted : bit accept m ≡ true → Written p s words accept m 4096

-- a row that begins at b is written
pub record Row (b p : ℕ) (words : List ℕ) (accept : ℕ) (t t' : List ℕ) : Type 0 where
  pub long : length t' ≡ length t
  pub cells : (m : ℕ) → Written p (get_or t (b + m) 0) words accept m (get_or t' (b + m) 0)
  pub before : (i : ℕ) → i < b → get_or t' i 0 ≡ get_or t i 0
