-- The actions of a cell, the entering symbols, and the table (003, 4.5). Nothing here is computed.
use Rattle.std.specs.Prelude.{ℕ, ◌+◌, ◌<◌, ◌≡◌, ◌↔◌, ◌≢◌, List, [], ◌∷◌, ◌++◌, length}
use Rattle.grammar.specs.Grammar.{Grammar}
use Rattle.tables.specs.Layout as layout
use Rattle.lr.specs.Items.{walk, Viable, Lookahead}
use Rattle.lr.specs.States.{States}

module _ (g : Grammar) where
  -- what stands at state q and terminal m, as the table's numbers: "1 to Q−1 shifts to that state, 1,024+r reduces by rule r, 4,096 accepts".
  -- A reduction stands where the complete item has the lookahead m in the merged set, acceptance where the added production's has
  pub data Action (next : ℕ → ℕ → ℕ) (q m : ℕ) : ℕ → Type 0 where
    shifts : m < g.terminals → next q m ≢ 0 → Action next q m (next q m)
    reduces : (r : ℕ) → r < g.productions → Lookahead g next q r m → Action next q m (layout.reduction r)
    accepts : Lookahead g next q g.productions m → Action next q m layout.accept

  -- the cell c of state q and terminal m holds what stands there: it is v, other than 0, exactly where v is an action.
  -- So no two actions meet there, and "0 is wrong" (proofs/CellLaws.antt)
  pub record Cell (next : ℕ → ℕ → ℕ) (q m c : ℕ) : Type 0 where
    pub holds : (v : ℕ) → v ≢ 0 → (c ≡ v) ↔ Action next q m v

  -- "the entering symbol of each state, 0 for state 0": the last symbol of a path that leads to state q.
  -- Each state has one, and one only (`some_entered` and `one_entered` of proofs/Entering.antt)
  pub data Entered (next : ℕ → ℕ → ℕ) (q : ℕ) : ℕ → Type 0 where
    start : q ≡ 0 → Entered next q 0
    last : (γ : List ℕ) {x : ℕ} → Viable g (γ ++ x ∷ []) → walk next 0 (γ ++ x ∷ []) ≡ q → Entered next q x

  -- l is the grammar's table, in the layout of crate tables
  pub record Table (count : ℕ) (next : ℕ → ℕ → ℕ) (l : List ℕ) : Type 0 where
    pub states : States g count next
    pub sizes : (layout.states l ≡ count) × (layout.terminals l ≡ g.terminals) × (layout.nonterminals l ≡ g.nonterminals) × (layout.productions l ≡ g.productions)
    pub long : length l ≡ layout.size_of l
    pub lefts : (r : ℕ) → r < g.productions → layout.left_of l r ≡ g.left r
    pub lengths : (r : ℕ) → r < g.productions → layout.length_of l r ≡ length (g.right r)
    pub entered : (q x : ℕ) → q < count → (layout.entered_of l q ≡ x) ↔ Entered next q x
    pub terminals : (q m : ℕ) → q < count → m < g.terminals → Cell next q m (layout.cell_of l q m)
    pub nonterminals : (q x : ℕ) → q < count → x < g.nonterminals → layout.cell_of l q (g.terminals + x) ≡ next q (g.terminals + x)
