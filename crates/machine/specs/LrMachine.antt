-- The LR machine over a table (003, 4.6): configurations, steps, paths, and how it ends. It knows no areas and no step limit.
use Rattle.std.specs.Prelude.{ℕ, zero, suc, ◌<◌, max, ◌≡◌, ◌≢◌, List, [], ◌∷◌, ◌++◌, length, drop}
use Rattle.sets.specs.Lists.{peek, rest}
use Rattle.tables.specs.Layout.{cell_of, left_of, length_of, reduction, accept}

-- the states from the top down, the terminals still to be read, the productions listed so far
pub data Config : Type 0 where
  conf : (qs x out : List ℕ) → Config

-- "the number of stack places in use"
abbrev pub depth : Config → ℕ
depth (conf qs x out) = length qs

-- "the number of rules listed"
abbrev pub listed : Config → ℕ
listed (conf qs x out) = length out

module _ (t : List ℕ) where
  -- the cell of the top state and the next terminal asks for a reduction by production r. In a table that no check has seen 1,024+r can be accept's number
  pub data Reduces (r : ℕ) : Config → Type 0 where
    reduces : {q : ℕ} {qs x out : List ℕ} → cell_of t q (peek x) ≡ reduction r → reduction r ≢ accept → Reduces r (conf (q ∷ qs) x out)

  pub data Step : Config → Config → Type 0 where
    shift : {q : ℕ} {qs x out : List ℕ} (s : ℕ) → cell_of t q (peek x) ≡ s → 0 < s → s < 1024 → Step (conf (q ∷ qs) x out) (conf (s ∷ q ∷ qs) (rest x) out)
    reduce : {q : ℕ} {qs x out : List ℕ} (r p : ℕ) (ps : List ℕ) (s : ℕ) → cell_of t q (peek x) ≡ reduction r → reduction r ≢ accept
        → drop (length_of t r) (q ∷ qs) ≡ p ∷ ps → cell_of t p (left_of t r) ≡ s → 0 < s
        → Step (conf (q ∷ qs) x out) (conf (s ∷ p ∷ ps) x (out ++ r ∷ []))

  -- so many steps lead from one configuration to another, with so many stack places in use on the way at the most
  pub data Path : (steps most : ℕ) → Config → Config → Type 0 where
    none : {c : Config} → Path 0 (depth c) c c
    more : {n m : ℕ} {c c' c'' : Config} → Step c c' → Path n m c' c'' → Path (suc n) (max (depth c) m) c c''

  -- "a reduction that would pop state 0, or whose next state is 0"
  pub data Broken (r : ℕ) (qs : List ℕ) : Type 0 where
    pops_all : drop (length_of t r) qs ≡ [] → Broken r qs
    no_next : (p : ℕ) (ps : List ℕ) → drop (length_of t r) qs ≡ p ∷ ps → cell_of t p (left_of t r) ≡ 0 → Broken r qs

  -- the ends that the machine itself has, by the paper's numbers
  pub data Ends : Config → ℕ → Type 0 where
    accepts : {q : ℕ} {qs x out : List ℕ} → cell_of t q (peek x) ≡ accept → Ends (conf (q ∷ qs) x out) 0
    wrong : {q : ℕ} {qs x out : List ℕ} → cell_of t q (peek x) ≡ 0 → Ends (conf (q ∷ qs) x out) 31
    broken : {q : ℕ} {qs x out : List ℕ} (r : ℕ) → cell_of t q (peek x) ≡ reduction r → reduction r ≢ accept → Broken r (q ∷ qs) → Ends (conf (q ∷ qs) x out) 35

-- how many steps an end itself takes: accept counts as one
abbrev pub own_steps : ℕ → ℕ
own_steps zero = 1
own_steps (suc n) = 0
