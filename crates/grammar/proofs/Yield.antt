-- Big-step derivation, which the proofs use; Derive.antt has that it is derivation by steps, and rightmost derivation.
use Prim.Native.Nat.{ℕ, ◌<◌}
use mathlib.Core.List.{List, [], ◌∷◌, ◌++◌, append_assoc, append-nil}
use Rattle.grammar.specs.Grammar.{Grammar, Symbols, none, more}

module _ (g : Grammar) where
  -- the symbols α become the terminals w; p lists the productions in the order in which their right sides are complete
  pub data Yields : List ℕ → List ℕ → List ℕ → Type 0 where
    nil : Yields [] [] []
    terminal : {a : ℕ} {α p w : List ℕ} → 0 < a → a < g.terminals → Yields α p w → Yields (a ∷ α) p (a ∷ w)
    nonterminal : {α p u q v : List ℕ} (r : ℕ) → r < g.productions → Yields (g.right r) p u → Yields α q v → Yields (g.left r ∷ α) (p ++ r ∷ q) (u ++ v)

pub symbols_append : {t : ℕ} {u v : List ℕ} → Symbols t u → Symbols t v → Symbols t (u ++ v)
symbols_append none n = n
symbols_append (more h k m) n = more h k (symbols_append m n)

pub symbols_back : {t : ℕ} (u : List ℕ) {v : List ℕ} → Symbols t (u ++ v) → Symbols t v
symbols_back [] m = m
symbols_back (a ∷ u) (more h k m) = symbols_back u m

module _ (g : Grammar) where
  pub append : {α p u β q v : List ℕ} → Yields g α p u → Yields g β q v → Yields g (α ++ β) (p ++ q) (u ++ v)
  append nil y = y
  append (terminal h k x) y = terminal h k (append x y)
  append (nonterminal r h x₁ x₂) y = simp append_assoc (nonterminal r h x₁ (append x₂ y))

  -- the two parts of a yield, as a view: a match on it puts `p₁ ++ p₂` for the productions and `w₁ ++ w₂` for the terminals
  pub data Split (α β : List ℕ) : List ℕ → List ℕ → Type 0 where
    parts : {p₁ w₁ p₂ w₂ : List ℕ} → Yields g α p₁ w₁ → Yields g β p₂ w₂ → Split α β (p₁ ++ p₂) (w₁ ++ w₂)

  split_terminal : {a : ℕ} {α β p w : List ℕ} → 0 < a → a < g.terminals → Split α β p w → Split (a ∷ α) β p (a ∷ w)
  split_terminal h k (parts x y) = parts (terminal h k x) y

  split_nonterminal : {α β p u q v : List ℕ} (r : ℕ) → r < g.productions → Yields g (g.right r) p u → Split α β q v → Split (g.left r ∷ α) β (p ++ r ∷ q) (u ++ v)
  split_nonterminal {α} {β} {p} {u} r h z (parts {p₁} {w₁} {p₂} {w₂} x y) = let s : Split (g.left r ∷ α) β (p ++ r ∷ p₁ ++ p₂) (u ++ w₁ ++ w₂) = parts (nonterminal r h z x) y in simp append_assoc at s

  pub split : (α : List ℕ) {β p w : List ℕ} → Yields g (α ++ β) p w → Split α β p w
  split [] y = parts nil y
  split (X ∷ α) (terminal h k y) = split_terminal h k (split α y)
  split (X ∷ α) (nonterminal r h x y) = split_nonterminal r h x (split α y)

  -- terminals yield themselves, by no production
  pub terminals_yield : {w : List ℕ} → Symbols g.terminals w → Yields g w [] w
  terminals_yield none = nil
  terminals_yield (more h k m) = terminal h k (terminals_yield m)

  pub yield_terminals : {α p w : List ℕ} → Yields g α p w → Symbols g.terminals w
  yield_terminals nil = none
  yield_terminals (terminal h k y) = more h k (yield_terminals y)
  yield_terminals (nonterminal r h x y) = symbols_append (yield_terminals x) (yield_terminals y)

  -- a production put back: its right side, in the middle, is its left side
  pub fold_back : (α β : List ℕ) {p w : List ℕ} (r : ℕ) → r < g.productions → Yields g (α ++ (g.right r ++ β)) p w → (q : List ℕ) × Yields g (α ++ g.left r ∷ β) q w
  fold_back α β r h y = go (split α y)
    where
      go₂ : {p₁ w₁ p w : List ℕ} → Yields g α p₁ w₁ → Split (g.right r) β p w → (q : List ℕ) × Yields g (α ++ g.left r ∷ β) q (w₁ ++ w)
      go₂ x (parts y z) = (_, append x (nonterminal r h y z))

      go : {p w : List ℕ} → Split α (g.right r ++ β) p w → (q : List ℕ) × Yields g (α ++ g.left r ∷ β) q w
      go (parts x y) = go₂ x (split (g.right r) y)

  -- the same behind the last symbol: the production is the last of the list
  pub fold_last : (α : List ℕ) {p w : List ℕ} (r : ℕ) → r < g.productions → Yields g (α ++ g.right r) p w → Yields g (α ++ g.left r ∷ []) (p ++ r ∷ []) w
  fold_last α r h y = go (split α y)
    where
      go : {p w : List ℕ} → Split α (g.right r) p w → Yields g (α ++ g.left r ∷ []) (p ++ r ∷ []) w
      go (parts x y) = simp append_assoc (simp append-nil at (append x (nonterminal r h y nil)))
