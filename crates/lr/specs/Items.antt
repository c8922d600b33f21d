-- Merging of the canonical sets by core (003, 4.4), and the lookaheads of a state. The canonical sets are those of Sets.antt.
use Rattle.std.specs.Prelude.{ℕ, ◌≡◌, List, [], ◌∷◌, length}
use Rattle.grammar.specs.Grammar.{Grammar}
use Rattle.lr.specs.Sets.{SetOf}

-- the state that a path of symbols leads to, from state q
abbrev pub walk : (ℕ → ℕ → ℕ) → ℕ → List ℕ → ℕ
walk next q [] = q
walk next q (x ∷ γ) = walk next (next q x) γ

module _ (g : Grammar) where
  -- the core of a set: its items, lookaheads not compared
  pub data Item (γ : List ℕ) (r d : ℕ) : Type 0 where
    with_lookahead : (a : ℕ) → SetOf g γ r d a → Item γ r d

  -- the set of γ is not empty: γ leads somewhere
  pub data Viable (γ : List ℕ) : Type 0 where
    by_item : {r d : ℕ} → Item γ r d → Viable γ

  pub record SameCore (γ γ' : List ℕ) : Type 0 where
    pub to : (r d : ℕ) → Item γ r d → Item γ' r d
    pub from : (r d : ℕ) → Item γ' r d → Item γ r d

  -- "find all sets having that core, and replace these sets by their union": the item is in the merged set of γ
  pub record Merged (γ : List ℕ) (r d a : ℕ) : Type 0 where
    pub path : List ℕ
    pub same : SameCore γ path
    pub item : SetOf g path r d a

  -- the lookaheads of the complete item of production r in state q: those in the merged set of a path that leads to q (by paths alone: `lookahead_exact` of proofs/Paths.antt)
  pub record Lookahead (next : ℕ → ℕ → ℕ) (q r a : ℕ) : Type 0 where
    pub path : List ℕ
    pub leads : walk next 0 path ≡ q
    pub merged : Merged path r (length (g.right r)) a
