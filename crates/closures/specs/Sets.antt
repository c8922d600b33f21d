-- Closure and transition of sets of item numbers, lookaheads left out.
use Rattle.std.specs.Prelude.{true, List, ◌≡◌, ℕ, ◌+◌, ◌<◌, eqb}
use Rattle.closures.specs.Numbers.{first_of, after_of}
use Rattle.grammar.specs.Card.{productions, left_of}
use Rattle.items.specs.Item.{item_limit, item}

-- item k is in the closure of s: it is in s, or the first item of a production whose left side stands after the dot of one that is
pub data Reach (c s : List ℕ) : ℕ → Type 0 where
  base : (k : ℕ) → item s k ≡ true → Reach c s k
  step : (i q k : ℕ) → Reach c s i → q < productions c → left_of c q ≡ after_of c i → first_of c q ≡ k → Reach c s k

-- r is the closure of s
pub record Closed (c s r : List ℕ) : Type 0 where
  pub kept : (k : ℕ) → item s k ≡ true → item r k ≡ true
  pub all : (i q : ℕ) → i < item_limit → item r i ≡ true → q < productions c → left_of c q ≡ after_of c i → item r (first_of c q) ≡ true
  pub from : (k : ℕ) → item r k ≡ true → Reach c s k

-- r is the items of s that stand before x, the dot moved over it
pub record Advanced (c s : List ℕ) (x : ℕ) (r : List ℕ) : Type 0 where
  pub from : (k : ℕ) → item r k ≡ true → (i : ℕ) × (item s i ≡ true) × (after_of c i ≡ x) × (k ≡ i + 1)
  pub all : (i : ℕ) → i + 1 < item_limit → item s i ≡ true → after_of c i ≡ x → item r (i + 1) ≡ true

-- no item of s stands before x
abbrev pub Stays : List ℕ → List ℕ → ℕ → Type 0
Stays c s x = (i : ℕ) → i < item_limit → item s i ≡ true → after_of c i ≡ x → ⊥

-- r is the set to which s has a transition on x: the closure of what is advanced
pub record Goes (c s : List ℕ) (x : ℕ) (r : List ℕ) : Type 0 where
  pub core : List ℕ
  pub advanced : Advanced c s x core
  pub some : (i : ℕ) × (i < item_limit) × (item core i ≡ true)
  pub closed : Closed c core r

-- r is the closure of the added production's first item
pub record Start (c r : List ℕ) : Type 0 where
  pub core : List ℕ
  pub only : (k : ℕ) → item core k ≡ eqb (first_of c (productions c)) k
  pub closed : Closed c core r

-- the same items
abbrev pub Alike : List ℕ → List ℕ → Type 0
Alike a b = (k : ℕ) → k < item_limit → item a k ≡ item b k

-- a is the symbols after the dots of the items of s below n, a set of numbers like s; 0 is in it where a dot stands last
pub record Afters (c s : List ℕ) (n : ℕ) (a : List ℕ) : Type 0 where
  pub all : (i : ℕ) → i < n → item s i ≡ true → item a (after_of c i) ≡ true
  pub from : (x : ℕ) → item a x ≡ true → (i : ℕ) × (i < n) × (item s i ≡ true) × (after_of c i ≡ x)
