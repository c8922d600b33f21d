-- A derivation that uses a production, by steps, as a rightmost derivation and as a yield whose productions have it among them.
use mathlib.Core.Path.{◌≡◌, refl}
use mathlib.Core.List.{List, [], ◌∷◌, ◌++◌, append-nil, reverse, reverse-cons}
use mathlib.Core.Logic.{◌⊎◌, inl, inr, ⊎_elim}
use Prim.Native.Nat.{ℕ, ◌<◌}
use Rattle.grammar.specs.Grammar.{Grammar, Symbols, Derives, Rightmost, Sentence}
use Rattle.grammar.proofs.Yield.{Yields, nonterminal, append, Split, parts, split}
use Rattle.grammar.proofs.Derive.{derives_yields, yields_rightmost, rightmost_derives, derives_trans}
use Rattle.sample_words.specs.Sample.{Uses}
use Rattle.sample_words.specs.Words.{Among, here, there}
use Rattle.sample_words.proofs.WordLaws.{among_left, among_right}

pub among_parts : {n : ℕ} (p : List ℕ) {q : List ℕ} → Among n (p ++ q) → Among n p ⊎ Among n q
among_parts [] a = inr a
among_parts (x ∷ p) here = inl here
among_parts (x ∷ p) (there a) = ⊎_elim (λ i. inl (there i)) (λ i. inr i) (among_parts p a)

-- before r, r itself, or behind it
pub among_middle : {n r : ℕ} (p : List ℕ) {q : List ℕ} → Among n (p ++ r ∷ q) → (Among n p ⊎ (r ≡ n)) ⊎ Among n q
among_middle p i = ⊎_elim (λ j. inl (inl j)) (λ j. last j) (among_parts p i)
  where
    last : {n r : ℕ} {p q : List ℕ} → Among n (r ∷ q) → (Among n p ⊎ (r ≡ n)) ⊎ Among n q
    last here = inl (inr refl)
    last (there j) = inr j

among_reverse : {n : ℕ} {p : List ℕ} → Among n p → Among n (reverse p)
among_reverse {p = []} a = elim a [ ]
among_reverse {n} {p = x ∷ p} here = rw (reverse-cons n p) (among_right (reverse p) here)
among_reverse {n} {p = x ∷ p} (there a) = rw (reverse-cons x p) (among_left (x ∷ []) (among_reverse a))

module _ (g : Grammar) where
  -- ---- from a yield to steps

  -- two parts of a derivation of t from s, around a step by r
  abbrev Around : ℕ → List ℕ → List ℕ → Type 0
  Around r s t = (front : List ℕ) × (behind : List ℕ) × Derives g s (front ++ g.left r ∷ behind) × Derives g (front ++ (g.right r ++ behind)) t

  around : {s p t : List ℕ} {r : ℕ} → Rightmost g s p t → Among r p → Around r s t
  around Rightmost.stop a = elim a [ ]
  around (Rightmost.step a b r h k e d) here = (a, b, rw e Derives.stop, rightmost_derives g d)
  around (Rightmost.step a b r h k e d) (there i) = let t = around d i in (t.0, t.1, Derives.step a b r h e t.2, t.3)

  -- a rightmost derivation that lists r uses it
  pub rightmost_uses : {p w : List ℕ} {r : ℕ} → Symbols g.terminals w → Rightmost g (g.terminals ∷ []) p w → Among r p → Uses g r w
  rightmost_uses m d i = let t = around d i in record { terminals = m; front = t.0; behind = t.1; until = t.2; since = t.3 }

  pub yields_uses : {p w : List ℕ} {r : ℕ} → Symbols g.terminals w → Yields g (g.terminals ∷ []) p w → Among r p → Uses g r w
  yields_uses m y i = rightmost_uses m (simp append-nil at (yields_rightmost g [] [] Symbols.none y)) (among_reverse i)

  -- ---- and from steps to a yield

  -- a production put back stands in the list, and those that stood there still do
  module _ (α β : List ℕ) (r : ℕ) (h : r < g.productions) where
    abbrev Folded : List ℕ → List ℕ → Type 0
    Folded p w = (q : List ℕ) × Yields g (α ++ g.left r ∷ β) q w × Among r q × ((m : ℕ) → Among m p → Among m q)

    folded : {p₁ w₁ p w : List ℕ} → Yields g α p₁ w₁ → Split g (g.right r) β p w → Folded (p₁ ++ p) (w₁ ++ w)
    folded {p₁} x (parts {p₁ = p₂} {p₂ = p₃} y z) = (
      p₁ ++ (p₂ ++ r ∷ p₃),
      append g x (nonterminal r h y z),
      among_right p₁ (among_right p₂ here),
      λ m a. ⊎_elim (λ i. among_left _ i) (λ i. among_right p₁ (⊎_elim (λ j. among_left _ j) (λ j. among_right p₂ (there j)) (among_parts p₂ i))) (among_parts p₁ a),
    )

    fold_parts : {p w : List ℕ} → Split g α (g.right r ++ β) p w → Folded p w
    fold_parts (parts x y) = folded x (split g (g.right r) y)

    fold_keeps : {p w : List ℕ} → Yields g (α ++ (g.right r ++ β)) p w → Folded p w
    fold_keeps y = fold_parts (split g α y)

  derives_keeps : {s t p w : List ℕ} {m : ℕ} → Derives g s t → Yields g t p w → Among m p → (q : List ℕ) × Yields g s q w × Among m q
  derives_keeps Derives.stop y i = (_, y, i)
  derives_keeps {m = m} (Derives.step a b r h e d) y i =
      let t = derives_keeps d y i in
      let u = fold_keeps a b r h t.1 in
      rw e (u.0, u.1, u.3 m t.2)

  module _ (r : ℕ) (h : r < g.productions) {w : List ℕ} (u : Uses g r w) where
    pub uses_yields : (p : List ℕ) × Yields g (g.terminals ∷ []) p w × Among r p
    uses_yields =
        let y = derives_yields g u.since u.terminals in
        let t = fold_keeps u.front u.behind r h y.1 in
        derives_keeps u.until t.1 t.2

    -- it is listed by a rightmost derivation
    pub uses_rightmost : (p : List ℕ) × Rightmost g (g.terminals ∷ []) p w × Among r p
    uses_rightmost = let y = uses_yields in (reverse y.0, simp append-nil at (yields_rightmost g [] [] Symbols.none y.1), among_reverse y.2)

    -- what has a derivation that uses r is a sentence
    pub uses_sentence : Sentence g w
    uses_sentence = record { terminals = u.terminals; derived = derives_trans g u.until (Derives.step u.front u.behind r h refl u.since) }
