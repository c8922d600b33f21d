-- The machine of the proofs: over paths in place of stacks of states, with one action in each cell.
use Prim.Native.Nat.{ℕ, ◌<◌}
use mathlib.Core.Path.{◌≡◌}
use mathlib.Core.List.{List, [], ◌∷◌, ◌++◌}
use lib.ListN.{length, drop}
use Rattle.grammar.specs.Grammar.{Grammar}
use Rattle.lr.specs.Items
use Rattle.sets.specs.Lists.{peek}

pub data Act : Type 0 where
  wrong shift accept : Act
  reduce : ℕ → Act

module _ (g : Grammar) where
  pub data After (γ : List ℕ) (x : ℕ) : Type 0 where
    dot_before : {r d : ℕ} {β : List ℕ} → Items.Item g γ r d → drop d (g.right r) ≡ x ∷ β → After γ x

  -- `act` is the LALR(1) table without conflict: a function, so at most one action stands in a cell
  pub record Table (act : List ℕ → ℕ → Act) : Type 0 where
    pub shifts : {γ : List ℕ} {m : ℕ} → After γ m → m < g.terminals → act γ m ≡ shift
    pub reduces : {γ : List ℕ} {r a : ℕ} → r < g.productions → Items.Merged g γ r (length (g.right r)) a → act γ a ≡ reduce r
    pub accepts : {γ : List ℕ} {a : ℕ} → Items.Merged g γ g.productions 1 a → act γ 0 ≡ accept
    pub shift_from : {γ : List ℕ} {m : ℕ} → Items.Viable g γ → act γ m ≡ shift → (m < g.terminals) × After γ m
    pub reduce_from : {γ : List ℕ} {m r : ℕ} → Items.Viable g γ → act γ m ≡ reduce r → (r < g.productions) × Items.Merged g γ r (length (g.right r)) m
    pub accept_from : {γ : List ℕ} {m : ℕ} → Items.Viable g γ → act γ m ≡ accept → (m ≡ 0) × Items.Merged g γ g.productions 1 0

  -- the machine, with the symbols of the stack in place of its states: from stack γ and rest x by the productions p to γ' and x'
  pub data Run (act : List ℕ → ℕ → Act) : List ℕ → List ℕ → List ℕ → List ℕ → List ℕ → Type 0 where
    stop : {γ x : List ℕ} → Run act γ x [] γ x
    shifted : {γ x p γ' x' : List ℕ} {m : ℕ} → act γ m ≡ shift → Run act (γ ++ m ∷ []) x p γ' x' → Run act γ (m ∷ x) p γ' x'
    reduced : {γ x p γ' x' : List ℕ} (α : List ℕ) (r : ℕ) → act γ (peek x) ≡ reduce r → γ ≡ α ++ g.right r → Run act (α ++ g.left r ∷ []) x p γ' x' → Run act γ x (r ∷ p) γ' x'
