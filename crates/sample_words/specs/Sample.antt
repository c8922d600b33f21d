-- "A teacher names a rule and gets a sentence with a derivation that uses it, and its length, none shorter existing."
use Rattle.std.specs.Prelude.{ℕ, ◌≤◌, List, [], ◌∷◌, ◌++◌, length}
use Rattle.grammar.specs.Grammar.{Grammar, Symbols, Derives}

module _ (g : Grammar) (r : ℕ) where
  -- the terminals w have a derivation from the start that uses production r: one of its steps puts r's right side in place of r's left side
  pub record Uses (w : List ℕ) : Type 0 where
    pub terminals : Symbols g.terminals w
    pub front : List ℕ
    pub behind : List ℕ
    pub until : Derives g (g.terminals ∷ []) (front ++ g.left r ∷ behind)
    pub since : Derives g (front ++ (g.right r ++ behind)) w

  -- w is one, and none is shorter
  pub record Sample (w : List ℕ) : Type 0 where
    pub uses : Uses w
    pub least : (v : List ℕ) → Uses v → length w ≤ length v
