-- What the 32-bit work area holds while the relations are walked.
use Rattle.std.specs.Prelude.{ℕ, ◌+◌, ◌≤◌, ◌<◌, ◌≡◌, ◌≢◌, ◌⊎◌, true, List, length, get_or}
use Rattle.sets.specs.Bit.{bit}
use Rattle.grammar.specs.Card.{terminals, nonterminals, productions, start_of, form_fault}
use Rattle.transitions.specs.Places.{transition_limit, halves_end, shifts_at, words_end}
use Rattle.transitions.specs.Area.{leaves_of, nonterminal_of, enters_of, first_of, entering_of, precedes, starting_of, shortest_of, LengthsAre}
use Rattle.transitions.specs.Next.{Goes, transition_count}
use Rattle.transitions.specs.Occurrences.{Occurrences}

-- by the area, a transition by x leads from p to q
pub record Enters (w : List ℕ) (p x q : ℕ) : Type 0 where
  pub from : p < 256
  pub into : q < 256
  pub before : precedes w q p ≡ true
  pub symbol : entering_of w q ≡ x

-- the area w is in order for the card c and k transitions, whatever they mean
pub record Ordered (c w : List ℕ) (k : ℕ) : Type 0 where
  pub formed : form_fault c ≡ 0
  pub few : k ≤ transition_limit
  pub total : first_of w 256 ≡ k
  pub leaves : (i : ℕ) → i < k → leaves_of w i < 256
  pub enters : (i : ℕ) → i < k → enters_of w i < 256
  pub low : (i : ℕ) → i < k → terminals c ≤ nonterminal_of w i
  pub high : (i : ℕ) → i < k → nonterminal_of w i < terminals c + nonterminals c
  -- those of state q stand from first_of w q to first_of w (q + 1), each nonterminal once
  pub from : (q i : ℕ) → q < 256 → first_of w q ≤ i → i < first_of w (q + 1) → (i < k) × (leaves_of w i ≡ q)
  pub to : (i : ℕ) → i < k → (first_of w (leaves_of w i) ≤ i) × (i < first_of w (leaves_of w i + 1))
  pub one : (i j : ℕ) → i < k → j < k → leaves_of w i ≡ leaves_of w j → nonterminal_of w i ≡ nonterminal_of w j → i ≡ j
  pub starts : (r : ℕ) → r < productions c → starting_of w r ≡ start_of c r
  pub occurrences : Occurrences c (shortest_of w) w

-- and it means the transitions `next` of n states
pub record Data (c w : List ℕ) (n k : ℕ) (next : ℕ → ℕ → ℕ) : Type 0 where
  pub ordered : Ordered c w k
  pub count : k ≡ transition_count c next n
  pub states : (i : ℕ) → i < k → leaves_of w i < n
  pub target : (i : ℕ) → i < k → enters_of w i ≡ next (leaves_of w i) (nonterminal_of w i)
  pub some : (i : ℕ) → i < k → next (leaves_of w i) (nonterminal_of w i) ≢ 0
  pub listed : (p x : ℕ) → terminals c ≤ x → next p x ≢ 0 → (i : ℕ) × (i < k) × (leaves_of w i ≡ p) × (nonterminal_of w i ≡ x)
  pub goes : (p x q : ℕ) → Goes next p x q → Enters w p x q
  pub enters : (p x q : ℕ) → Enters w p x q → Goes next p x q
  pub start : entering_of w 0 ≡ 0

-- the area after building: k transitions are counted, and within the limit the area holds them; the shortest lengths are those of e;
-- places from halves_end on are as they were
pub record Built (c w₀ w : List ℕ) (n k : ℕ) (e : List ℕ) (next : ℕ → ℕ → ℕ) : Type 0 where
  pub count : k ≡ transition_count c next n
  pub holds : k ≤ transition_limit → Data c w n k next
  pub lengths : LengthsAre w e 60
  pub long : length w ≡ length w₀
  pub rest : (i : ℕ) → halves_end ≤ i → get_or w i 0 ≡ get_or w₀ i 0

-- ---- direct reads

-- the word s has bit m just where P m
pub record Holds (s : ℕ) (P : ℕ → Type 0) : Type 0 where
  pub only : (m : ℕ) → bit s m ≡ true → P m
  pub all : (m : ℕ) → P m → bit s m ≡ true

-- state q has a transition by the terminal m
pub record Shifts (c : List ℕ) (next : ℕ → ℕ → ℕ) (q m : ℕ) : Type 0 where
  pub low : 0 < m
  pub high : m < terminals c
  pub some : next q m ≢ 0

-- transition i is the one on the start from state 0, behind which the input ends
pub record Ends (c w : List ℕ) (i : ℕ) : Type 0 where
  pub state : leaves_of w i ≡ 0
  pub start : nonterminal_of w i ≡ terminals c

-- the terminal m is a direct read of transition i
abbrev pub Direct : List ℕ → List ℕ → (ℕ → ℕ → ℕ) → ℕ → ℕ → Type 0
Direct c w next i m = ((m ≡ 0) × Ends c w i) ⊎ Shifts c next (enters_of w i) m

-- the 64-bit area: the direct reads of transition i at i, the terminals that state q shifts at shifts_at + q; other places are as they were
pub record Begun (c w : List ℕ) (n k : ℕ) (next : ℕ → ℕ → ℕ) (z₀ z : List ℕ) : Type 0 where
  pub direct : (i : ℕ) → i < k → Holds (get_or z i 0) (Direct c w next i)
  pub shifts : (q : ℕ) → q < n → Holds (get_or z (shifts_at + q) 0) (Shifts c next q)
  pub long : length z ≡ length z₀
  pub between : (i : ℕ) → k ≤ i → i < shifts_at → get_or z i 0 ≡ get_or z₀ i 0
  pub rest : (i : ℕ) → words_end ≤ i → get_or z i 0 ≡ get_or z₀ i 0
