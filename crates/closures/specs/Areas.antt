-- What stands in the work areas while the states are made. The first is in slots, an item set to a slot: first one for each of 256 states, then,
-- for each of 60 nonterminals, the closure of its first items, then, for each of 124 symbols, the items that stand before it.
-- The second area holds the symbol after each dot.
use Rattle.std.specs.Prelude.{true, ◌&&◌, List, ◌⊎◌, ◌≡◌, ℕ, ◌+◌, ◌-◌, ◌*◌, ◌≤◌, ◌<◌, eqb, ltb, length, get_or, take, drop}
use Rattle.closures.specs.Numbers.{first_of, after_of}
use Rattle.closures.specs.Sets.{Reach}
use Rattle.grammar.specs.Card.{terminals, nonterminals, productions, left_of}
use Rattle.items.specs.Item.{set_size, item_limit, item}
use Rattle.sets.specs.Bit.{bit}
use Rattle.areas.specs.Areas.{words_size}

-- the slots of the first nonterminal and of the first symbol, how many slots there are, and the place behind them
abbrev pub closures_at : ℕ
closures_at = 256

abbrev pub masks_at : ℕ
masks_at = closures_at + 60

abbrev pub slot_count : ℕ
slot_count = masks_at + 124

abbrev pub slots_end : ℕ
slots_end = slot_count * set_size

-- the set in slot q
abbrev pub slot : List ℕ → ℕ → List ℕ
slot l q = take set_size (drop (q * set_size) l)

-- from the place n on, l is as l₀ was
pub record Kept (l₀ : List ℕ) (n : ℕ) (l : List ℕ) : Type 0 where
  pub kept : (k : ℕ) → n ≤ k → get_or l k 0 ≡ get_or l₀ k 0

-- w has the symbols after the dots of the items below n
pub record Filled (c w : List ℕ) (n : ℕ) : Type 0 where
  pub filled : (i : ℕ) → i < n → get_or w i 0 ≡ after_of c i

-- nonterminal T + k begins what T + j becomes: it is T + j, or begins a production of such a one
pub data Leads (c : List ℕ) (j : ℕ) : ℕ → Type 0 where
  own : (k : ℕ) → j ≡ k → Leads c j k
  next : (m r k : ℕ) → Leads c j m → r < productions c → left_of c r ≡ terminals c + m → after_of c (first_of c r) ≡ terminals c + k → Leads c j k

-- word j has the nonterminals that begin productions of T + j, among the productions below n
pub record Begun (c w : List ℕ) (n : ℕ) : Type 0 where
  pub long : length w ≡ 60
  pub all : (r k : ℕ) → r < n → after_of c (first_of c r) ≡ terminals c + k → bit (get_or w (left_of c r - terminals c) 0) k ≡ true
  pub from : (j k : ℕ) → bit (get_or w j 0) k ≡ true → Leads c j k

-- r is a, with b where k is in a
pub record Through (a k b r : ℕ) : Type 0 where
  pub kept : (m : ℕ) → bit a m ≡ true → bit r m ≡ true
  pub all : (m : ℕ) → bit a k ≡ true → bit b m ≡ true → bit r m ≡ true
  pub from : (m : ℕ) → bit r m ≡ true → (bit a m ≡ true) ⊎ ((bit a k ≡ true) × (bit b m ≡ true))

-- every word below n of r is that of w, with word k where k is in it
pub record Widened (w : List ℕ) (n k : ℕ) (r : List ℕ) : Type 0 where
  pub long : length r ≡ 60
  pub through : (j : ℕ) → j < n → Through (get_or w j 0) k (get_or w k 0) (get_or r j 0)
  pub rest : (j : ℕ) → n ≤ j → get_or r j 0 ≡ get_or w j 0

-- word j has the nonterminals but T + j that begin what T + j becomes
pub record Led (c w : List ℕ) : Type 0 where
  pub long : length w ≡ 60
  pub all : (j k : ℕ) → j < nonterminals c → Leads c j k → (j ≡ k) ⊎ (bit (get_or w j 0) k ≡ true)
  pub from : (j k : ℕ) → bit (get_or w j 0) k ≡ true → Leads c j k

-- r is the first items of the productions below n whose left side is in w
pub record Firsts (c : List ℕ) (w n : ℕ) (r : List ℕ) : Type 0 where
  pub all : (q : ℕ) → q < n → bit w (left_of c q - terminals c) ≡ true → item r (first_of c q) ≡ true
  pub from : (k : ℕ) → item r k ≡ true → (q : ℕ) × (q < n) × (bit w (left_of c q - terminals c) ≡ true) × (first_of c q ≡ k)

-- the closures of the nonterminals below n
pub record Closures (c z : List ℕ) (n : ℕ) : Type 0 where
  pub starts : (j q : ℕ) → j < n → q < productions c → left_of c q ≡ terminals c + j → item (slot z (closures_at + j)) (first_of c q) ≡ true
  pub all : (j i q : ℕ) → j < n → item (slot z (closures_at + j)) i ≡ true → q < productions c → left_of c q ≡ after_of c i → item (slot z (closures_at + j)) (first_of c q) ≡ true
  pub from : (j k : ℕ) → j < n → item (slot z (closures_at + j)) k ≡ true → (s : List ℕ) (i : ℕ) → item s i ≡ true → after_of c i ≡ terminals c + j → Reach c s k

-- the items below n that stand before each symbol
abbrev pub Masks : List ℕ → List ℕ → ℕ → Type 0
Masks c z n = (x i : ℕ) → x < terminals c + nonterminals c → i < item_limit → item (slot z (masks_at + x)) i ≡ (ltb i n && eqb (after_of c i) x)

-- z is z₀ with such masks
pub record Masked (c z₀ z : List ℕ) (n : ℕ) : Type 0 where
  pub masks : Masks c z n
  pub low : (q : ℕ) → q < masks_at → slot z q ≡ slot z₀ q
  pub behind : Kept z₀ slots_end z
  pub wide : length z ≡ length z₀

pub record Prepared (c z : List ℕ) : Type 0 where
  pub closures : Closures c z (nonterminals c)
  pub masks : Masks c z item_limit
  pub room : words_size ≤ length z

-- y is z with s in slot n
pub record Added (z : List ℕ) (n : ℕ) (s y : List ℕ) : Type 0 where
  pub new : slot y n ≡ s
  pub low : (q : ℕ) → q < n → slot y q ≡ slot z q
  pub high : (q : ℕ) → n < q → q * set_size + set_size ≤ length z → slot y q ≡ slot z q
  pub behind : Kept z (n * set_size + set_size) y
