-- The numbered states: the canonical sets merged by core, in the paper's order. Nothing here is computed.
use Rattle.std.specs.Prelude.{ℕ, suc, zero, ◌+◌, ◌≤◌, ◌<◌, ◌≡◌, ◌↔◌, ◌≢◌, List, [], ◌∷◌, ◌++◌}
use Rattle.sets.specs.Lists.{each}
use Rattle.grammar.specs.Grammar.{Grammar}
use Rattle.lr.specs.Items.{walk, Viable, SameCore}

-- "a new set gets the next number": the transitions of one state, with n numbers given before and m after; 0, no transition, is never new
pub data Given : ℕ → List ℕ → ℕ → Type 0 where
  done : {n : ℕ} → Given n [] n
  known : {n k m : ℕ} {ks : List ℕ} → k < n → Given n ks m → Given n (k ∷ ks) m
  new : {n k m : ℕ} {ks : List ℕ} → k ≡ n → Given (suc n) ks m → Given n (k ∷ ks) m

-- "States are taken in number order": the first q are taken, and n numbers are given; state 0 has the first
pub data Taken (row : ℕ → List ℕ) : ℕ → ℕ → Type 0 where
  none : Taken row 0 1
  one : {q n m : ℕ} → Taken row q n → q < n → Given n (row q) m → Taken row (suc q) m

-- "and symbols in ascending order"
abbrev pub row_of : Grammar → (ℕ → ℕ → ℕ) → ℕ → List ℕ
row_of g next q = each (g.terminals + g.nonterminals) (λ x. next q x ∷ [])

-- a name move is "a state with a name on which it has a transition": a nonterminal transition; how many there are
abbrev pub count_transitions : List ℕ → ℕ
count_transitions [] = 0
count_transitions (zero ∷ ks) = count_transitions ks
count_transitions (suc k ∷ ks) = suc (count_transitions ks)

abbrev pub nonterminal_transitions : Grammar → ℕ → (ℕ → ℕ → ℕ) → ℕ
nonterminal_transitions g count next = count_transitions (each count (λ q. each g.nonterminals (λ x. next q (g.terminals + x) ∷ [])))

module _ (g : Grammar) where
  -- `count` states with the transitions `next` (0 for none): a path γ leads, from state 0, to the state `walk next 0 γ`
  pub record States (count : ℕ) (next : ℕ → ℕ → ℕ) : Type 0 where
    -- each canonical set has a number below count, and each number is that of a set
    pub below : {γ : List ℕ} → Viable g γ → walk next 0 γ < count
    pub every : (q : ℕ) → q < count → (γ : List ℕ) × Viable g γ × (walk next 0 γ ≡ q)
    -- "A state is the set of its items, look-aheads not compared": sets with one core have one number, and no others
    pub merged : {γ γ' : List ℕ} → Viable g γ → Viable g γ' → (walk next 0 γ ≡ walk next 0 γ') ↔ SameCore g γ γ'
    -- there is a transition on x exactly where GOTO is not empty
    pub moved : {γ : List ℕ} → Viable g γ → (x : ℕ) → (next (walk next 0 γ) x ≢ 0) ↔ Viable g (γ ++ x ∷ [])
    pub order : Taken (row_of g next) count count

  -- more than n states: n + 1 sets, no two with the same core
  pub record MoreStates (n : ℕ) : Type 0 where
    pub path : ℕ → List ℕ
    pub viable : (i : ℕ) → i ≤ n → Viable g (path i)
    pub apart : (i j : ℕ) → i ≤ n → j ≤ n → SameCore g (path i) (path j) → i ≡ j
