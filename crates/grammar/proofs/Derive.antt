-- The big-step derivation and the two of single steps say the same.
use Prim.Native.Nat.{ℕ, ◌<◌}
use mathlib.Core.Path.{◌≡◌, refl, ap, ◌∙◌}
use mathlib.Core.List.{List, [], ◌∷◌, ◌++◌, append_assoc, append-nil, reverse, reverse-append, reverse-cons}
use native.Mathlib.Omega.{arith}
use Rattle.grammar.specs.Grammar.{Grammar, Symbols, more, Derives, Rightmost, Formed}
use Rattle.grammar.proofs.Yield.{Yields, nil, terminal, nonterminal, append, Split, parts, split, terminals_yield, yield_terminals, fold_back, symbols_append}

reverse_middle : (p : List ℕ) (r : ℕ) (q : List ℕ) → reverse (p ++ r ∷ q) ≡ reverse q ++ r ∷ reverse p
reverse_middle p r q = reverse-append p (r ∷ q) ∙ ap (λ (l : List ℕ). l ++ reverse p) (reverse-cons r q) ∙ append_assoc (reverse q) (r ∷ []) (reverse p)

module _ (g : Grammar) where
  pub derives_yields : {s w : List ℕ} → Derives g s w → Symbols g.terminals w → (p : List ℕ) × Yields g s p w
  derives_yields Derives.stop m = ([], terminals_yield g m)
  derives_yields (Derives.step a b r h e d) m =
      let y = derives_yields d m in
      rw e (fold_back g a b r h y.1)

  module _ (f : Formed g) where
    -- terminals yield only themselves, by no production, since left sides are nonterminals
    pub terminals_only : {b p w : List ℕ} → Symbols g.terminals b → Yields g b p w → (p ≡ []) × (b ≡ w)
    terminals_only m nil = (refl, refl)
    terminals_only (more h k m) (terminal h' k' y) = let e = terminals_only m y in (e.0, cc)
    terminals_only (more h k m) (nonterminal r i x y) = absurd (omega (arith, f.left_nonterminal r i))

    pub fold_terminals : (a b : List ℕ) {p w : List ℕ} (r : ℕ) → r < g.productions → Symbols g.terminals b → Yields g (a ++ (g.right r ++ b)) p w → Yields g (a ++ g.left r ∷ b) (p ++ r ∷ []) w
    fold_terminals a b r h m y = go (split g a y)
      where
        go₂ : {p₁ w₁ p w : List ℕ} → Yields g a p₁ w₁ → Split g (g.right r) b p w → Yields g (a ++ g.left r ∷ b) (p₁ ++ p ++ r ∷ []) (w₁ ++ w)
        go₂ x (parts y z) = let e = (terminals_only m z).0 in simp (e, append_assoc, append-nil) (simp e at (append g x (nonterminal r h y z)))

        go : {p w : List ℕ} → Split g a (g.right r ++ b) p w → Yields g (a ++ g.left r ∷ b) (p ++ r ∷ []) w
        go (parts x y) = go₂ x (split g (g.right r) y)

    pub rightmost_yields : {s p w : List ℕ} → Rightmost g s p w → Symbols g.terminals w → Yields g s (reverse p) w
    rightmost_yields Rightmost.stop m = terminals_yield g m
    rightmost_yields (Rightmost.step a b r h k e d) m = rw (e, reverse-cons) (fold_terminals a b r h k (rightmost_yields d m))

  pub rightmost_trans : {s p t q u : List ℕ} → Rightmost g s p t → Rightmost g t q u → Rightmost g s (p ++ q) u
  rightmost_trans Rightmost.stop y = y
  rightmost_trans (Rightmost.step a b r h k e d) y = Rightmost.step a b r h k e (rightmost_trans d y)

  pub yields_rightmost : {α p w : List ℕ} (c y : List ℕ) → Symbols g.terminals y → Yields g α p w → Rightmost g (c ++ (α ++ y)) (reverse p) (c ++ (w ++ y))
  yields_rightmost c y m nil = Rightmost.stop
  yields_rightmost c y m (terminal {a} h k x) = simp append_assoc at (yields_rightmost (c ++ a ∷ []) y m x)
  yields_rightmost c y m (nonterminal {α} {p} {u} {q} {v} r h x z) =
      let first : Rightmost g (c ++ g.left r ∷ (α ++ y)) (reverse q) (c ++ g.left r ∷ (v ++ y)) = simp append_assoc at (yields_rightmost (c ++ g.left r ∷ []) y m z) in
      let last = yields_rightmost c (v ++ y) (symbols_append (yield_terminals g z) m) x in
      rw (reverse_middle, append_assoc u v y) (rightmost_trans first (Rightmost.step c (v ++ y) r h (symbols_append (yield_terminals g z) m) refl last))

  pub rightmost_derives : {s p t : List ℕ} → Rightmost g s p t → Derives g s t
  rightmost_derives Rightmost.stop = Derives.stop
  rightmost_derives (Rightmost.step a b r h k e d) = Derives.step a b r h e (rightmost_derives d)

  pub yields_derives : {α p w : List ℕ} → Yields g α p w → Derives g α w
  yields_derives y = rightmost_derives (simp append-nil at (yields_rightmost [] [] Symbols.none y))

  pub derives_trans : {s t u : List ℕ} → Derives g s t → Derives g t u → Derives g s u
  derives_trans Derives.stop e = e
  derives_trans (Derives.step a b r h k d) e = Derives.step a b r h k (derives_trans d e)
