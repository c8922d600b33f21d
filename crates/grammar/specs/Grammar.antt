-- Grammars, derivations, sentences and rightmost derivations: "The words of demand 3".
-- A terminal is the paper's mark, a nonterminal its name, a production its rule.
use Rattle.std.specs.Prelude.{ℕ, ◌+◌, ◌≤◌, ◌<◌, ◌≡◌, List, [], ◌∷◌, ◌++◌}

-- The symbols below `terminals` are terminals, 0 being the end marker; the next `nonterminals` symbols are nonterminals, the first of
-- them, the number `terminals`, the start. Productions 0 .. `productions`-1 are the grammar's; `productions` is the added one, start' → start.
-- `left` is of the productions below `productions` alone: start' is no symbol, and what `left` gives for the added production means nothing.
pub record Grammar : Type 0 where
  pub terminals : ℕ
  pub nonterminals : ℕ
  pub productions : ℕ
  pub left : ℕ → ℕ
  pub right : ℕ → List ℕ

-- a list of symbols from 1 to n - 1: a string for n = T+N, a list of terminals for n = T
pub data Symbols (n : ℕ) : List ℕ → Type 0 where
  none : Symbols n []
  more : {a : ℕ} {w : List ℕ} → 0 < a → a < n → Symbols n w → Symbols n (a ∷ w)

module _ (g : Grammar) where
  -- "A string derives what steps, none or more, make of it." A step by production r puts its right side in place of one nonterminal, its left side
  pub data Derives : List ℕ → List ℕ → Type 0 where
    stop : {s : List ℕ} → Derives s s
    step : {s t : List ℕ} (a b : List ℕ) (r : ℕ) → r < g.productions → s ≡ a ++ g.left r ∷ b → Derives (a ++ (g.right r ++ b)) t → Derives s t

  -- "a list of marks, of any length, that the start derives"
  pub record Sentence (w : List ℕ) : Type 0 where
    pub terminals : Symbols g.terminals w
    pub derived : Derives (g.terminals ∷ []) w

  -- `p` is a rightmost derivation of `t` from `s`: each production in turn makes a step at the last nonterminal, only terminals stand behind it
  pub data Rightmost : List ℕ → List ℕ → List ℕ → Type 0 where
    stop : {s : List ℕ} → Rightmost s [] s
    step : {s p t : List ℕ} (a b : List ℕ) (r : ℕ) → r < g.productions → Symbols g.terminals b → s ≡ a ++ g.left r ∷ b → Rightmost (a ++ (g.right r ++ b)) p t → Rightmost s (r ∷ p) t

  -- the grammar's form, as the checks of a card leave it
  pub record Formed : Type 0 where
    pub added : g.right g.productions ≡ g.terminals ∷ []
    pub left_nonterminal : (r : ℕ) → r < g.productions → g.terminals ≤ g.left r
    pub left_below : (r : ℕ) → r < g.productions → g.left r < g.terminals + g.nonterminals
    pub right_symbols : (r : ℕ) → r < g.productions → Symbols (g.terminals + g.nonterminals) (g.right r)
    pub start_nonterminal : 0 < g.nonterminals
    pub end_marker : 0 < g.terminals
