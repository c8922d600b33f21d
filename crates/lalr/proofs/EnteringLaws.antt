-- The entering symbols found in the rows are the definition's.
use mathlib.Core.Path.{◌≡◌, refl, sym, ap, ◌∙◌, subst}
use mathlib.Core.Logic.{◌≢◌, ◌↔◌, ⊎_elim}
use mathlib.Core.List.{List, [], ◌∷◌, Memᴰ}
use Prim.Native.Nat.{ℕ, zero, suc, ◌+◌, ◌<◌}
use native.Mathlib.Omega.{arith}
use lib.ListN.{length}
use lib.Dec.{eqb}
use borrow.Author.Tests.{eq-eqb, eqb-true}
use Rattle.sets.specs.Lists.{each, peek}
use Rattle.grammar.specs.Grammar.{Grammar, Formed}
use Rattle.lr.specs.States.{States}
use Rattle.lr.specs.Cells.{Entered}
use Rattle.lr.proofs.ItemLaws.{AllProductive}
use Rattle.lr.proofs.Entering.{move_enters, one_entered, entered_below, entries}
use Rattle.lalr.specs.ComputedSets.{when}
use Rattle.lalr.specs.ComputedStates.{goes, symbols_to, entering}
use Rattle.lalr.proofs.Lists.{each_in, From, from, each_from, when_in, when_from}

-- the first of a list stands in it
first_in : (l : List ℕ) {a : ℕ} → Memᴰ a l → Memᴰ (peek l) l
first_in [] m = absurd (mathlib.Core.List.Memᴰ.not-nil m)
first_in (v ∷ vs) m = mathlib.Core.List.Memᴰ.head refl

only_one : {a b : ℕ} → Memᴰ a (b ∷ []) → a ≡ b
only_one m = ⊎_elim (λ e. e) (λ k. absurd (mathlib.Core.List.Memᴰ.not-nil k)) (mathlib.Core.List.Memᴰ.cases_cons m)

module _ (g : Grammar) (f : Formed g) (pr : AllProductive g) (rows : List (List ℕ)) (st : States g (length rows) (goes g rows)) where
  abbrev next : ℕ → ℕ → ℕ
  next = goes g rows

  -- of the symbols that lead to q
  leads_in : (p x : ℕ) → p < length rows → x < g.terminals + g.nonterminals → Memᴰ x (symbols_to g rows (next p x))
  leads_in p x h k =
      each_in (length rows) (λ p'. each (g.terminals + g.nonterminals) (λ y. when (eqb (next p' y) (next p x)) (y ∷ []))) p h
      (each_in (g.terminals + g.nonterminals) (λ y. when (eqb (next p y) (next p x)) (y ∷ [])) x k (when_in (eq-eqb (next p x) (next p x) refl) (mathlib.Core.List.Memᴰ.head refl)))

  leads_from : (q y : ℕ) → Memᴰ y (symbols_to g rows q) → (p : ℕ) × (p < length rows) × (next p y ≡ q)
  leads_from q y m = go (each_from (length rows) (λ p. each (g.terminals + g.nonterminals) (λ x. when (eqb (next p x) q) (x ∷ []))) m)
    where
      at : (p x : ℕ) → Memᴰ y (when (eqb (next p x) q) (x ∷ [])) → next p y ≡ q
      at p x k = let t = when_from (eqb (next p x) q) k in ap (next p) (only_one t.1) ∙ eqb-true (next p x) q t.0

      inner : (p : ℕ) → From y (g.terminals + g.nonterminals) (λ x. when (eqb (next p x) q) (x ∷ [])) → next p y ≡ q
      inner p (from x h k) = at p x k

      go : From y (length rows) (λ p. each (g.terminals + g.nonterminals) (λ x. when (eqb (next p x) q) (x ∷ []))) → (p : ℕ) × (p < length rows) × (next p y ≡ q)
      go (from p h k) = (p, h, inner p (each_from (g.terminals + g.nonterminals) (λ x. when (eqb (next p x) q) (x ∷ [])) k))

  behind_move : (p x : ℕ) → p < length rows → next p x ≢ 0 → (q : ℕ) → next p x ≡ q → entering g rows q ≡ x
  behind_move p x h nz zero e = absurd (nz e)
  behind_move p x h nz (suc q) e =
      let E = move_enters g st p x h nz in
      let m : Memᴰ x (symbols_to g rows (suc q)) = rw e at (leads_in p x h (entered_below g f pr E)) in
      let t = leads_from (suc q) (peek (symbols_to g rows (suc q))) (first_in (symbols_to g rows (suc q)) m) in
      let z : next t.0 (peek (symbols_to g rows (suc q))) ≢ 0 = λ k. nz (e ∙ sym t.2 ∙ k) in
      one_entered g st (rw (t.2 ∙ sym e) at (move_enters g st t.0 (peek (symbols_to g rows (suc q))) t.1 z)) E

  pub entering_is : (q x : ℕ) → q < length rows → (entering g rows q ≡ x) ↔ Entered g (goes g rows) q x
  entering_is = entries g st (entering g rows) refl (λ p x h nz. behind_move p x h nz (next p x) refl)
