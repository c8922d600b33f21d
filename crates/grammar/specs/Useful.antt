-- The words of refusal 10: a nonterminal that is reached from the start, and one that derives some string of terminals.
use Rattle.std.specs.Prelude.{ℕ, ◌+◌, ◌≤◌, ◌<◌, List, [], ◌∷◌, ◌++◌}
use Rattle.grammar.specs.Grammar.{Grammar, Symbols, Derives}

module _ (g : Grammar) where
  -- the start derives a string with x in it
  pub record Reachable (x : ℕ) : Type 0 where
    pub front : List ℕ
    pub behind : List ℕ
    pub derived : Derives g (g.terminals ∷ []) (front ++ x ∷ behind)

  pub record Productive (x : ℕ) : Type 0 where
    pub made : List ℕ
    pub terminals : Symbols g.terminals made
    pub derived : Derives g (x ∷ []) made

  pub record Useful (x : ℕ) : Type 0 where
    pub reachable : Reachable x
    pub productive : Productive x

  -- x is a nonterminal of the grammar
  pub record Nonterminal (x : ℕ) : Type 0 where
    pub from : g.terminals ≤ x
    pub below : x < g.terminals + g.nonterminals

  -- "10, with the lowest such name": k is the lowest nonterminal that is not useful; T+N where all are
  pub record LowestUseless (k : ℕ) : Type 0 where
    pub from : g.terminals ≤ k
    pub to : k ≤ g.terminals + g.nonterminals
    pub before : (x : ℕ) → g.terminals ≤ x → x < k → Useful x
    pub here : k < g.terminals + g.nonterminals → Useful k → ⊥
