-- FIRST as 01 has it; CLOSURE, GOTO and the canonical sets of LR(1) items as 003 has them (4.2 and 4.3).
-- An item is a production r, a dot behind d symbols of its right side, and a lookahead a (the paper's look-ahead).
use Rattle.std.specs.Prelude.{ℕ, suc, ◌<◌, ◌≡◌, List, [], ◌∷◌, drop}
use Rattle.grammar.specs.Grammar.{Grammar, Symbols, Derives}

-- which items [r, d, a] a set has
abbrev pub ItemSet : Type 1
ItemSet = ℕ → ℕ → ℕ → Type 0

module _ (g : Grammar) where
  -- "FIRST of a string is the set of marks that begin a mark string it derives": FIRST(β a), a being a terminal or the end marker
  pub data First (β : List ℕ) (a : ℕ) : ℕ → Type 0 where
    begins : {w : List ℕ} {b : ℕ} → Symbols g.terminals (b ∷ w) → Derives g β (b ∷ w) → First β a b
    follows : {b : ℕ} → Derives g β [] → b ≡ a → First β a b

  -- "1. Every item in I is in CLOSURE(I). 2. If [A → α . B β, a] is in CLOSURE(I) and B → γ is a production, then add the item [B → . γ, b] where b in FIRST(β a)"
  pub data Closure (I : ItemSet) : ℕ → ℕ → ℕ → Type 0 where
    given : {r d a : ℕ} → I r d a → Closure I r d a
    opened : {r d a s b : ℕ} {β : List ℕ} → Closure I r d a → drop d (g.right r) ≡ g.left s ∷ β → s < g.productions → First β a b → Closure I s 0 b

  -- "the set of all items [A → α X . β, a] such that [A → α . X β, a] is in I"
  pub data Advanced (I : ItemSet) (x : ℕ) : ℕ → ℕ → ℕ → Type 0 where
    advanced : {r d a : ℕ} {β : List ℕ} → I r d a → drop d (g.right r) ≡ x ∷ β → Advanced I x r (suc d) a

  -- "GOTO(I, X) .. is defined to be the closure of" that set
  abbrev pub Goto : ItemSet → ℕ → ItemSet
  Goto I x = Closure (Advanced I x)

  -- "an added rule 'start' → start' whose look-ahead is 0": the set of its first item alone
  pub data FirstItem : ℕ → ℕ → ℕ → Type 0 where
    first_item : FirstItem g.productions 0 0

  -- "we begin by computing the closure of {[S' → . S, $]}" and "add GOTO(I, X)" for each set I found and symbol X: the set found along a path γ of symbols.
  -- A set that has no item is none
  abbrev pub SetFrom : ItemSet → List ℕ → ItemSet
  SetFrom I [] = I
  SetFrom I (x ∷ γ) = SetFrom (Goto I x) γ

  unfoldable pub SetOf : List ℕ → ItemSet
  SetOf γ = SetFrom (Closure FirstItem) γ
