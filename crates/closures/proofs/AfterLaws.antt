-- The symbols after the dots of a set, item after item.
use mathlib.Core.Bool.{true, false, true≢false}
use mathlib.Core.List.{List}
use mathlib.Core.Logic.{⊎_elim}
use mathlib.Core.Path.{◌≡◌, sym, ap, ◌∙◌}
use Prim.Native.Nat.{ℕ, ◌+◌, ◌<◌, ◌≤◌}
use native.Mathlib.Omega.{arith}
use lib.Dec.{eqb}
use borrow.Author.Tests.{eqb-true, eq-eqb}
use Rattle.closures.specs.Numbers.{after_of}
use Rattle.closures.specs.Sets.{Afters, Stays}
use Rattle.items.specs.Item.{item_limit, item, Put}
use Rattle.sets.proofs.HasLaws.{lt_or_ge, or_left, or_right, or_cases}
use Rattle.sets.specs.Words.{First}

module _ (c s : List ℕ) where
  -- no item stands between n and r
  pub afters_next : (n r : ℕ) (a : List ℕ) → Afters c s n a → First s n r → Afters c s r a
  afters_next n r a p q = record {
    all = λ i l e. ⊎_elim (λ (g : i < n). p.all i g e) (λ (g : n ≤ i). absurd (true≢false (sym e ∙ q.gap i g l))) (lt_or_ge i n);
    from = λ x e.
        let t = p.from x e in
        let b : t.0 < n = t.1 in
        let d : n ≤ r = q.least in
        (t.0, omega arith, t.2, t.3);
  }

  -- the symbol after the dot of item i is put in
  pub afters_more : (i x : ℕ) (a b : List ℕ) → Afters c s i a → item s i ≡ true → x ≡ after_of c i → Put a x b → Afters c s (i + 1) b
  afters_more i x a b p h ex q = record {
    all = λ k l e.
        ⊎_elim (λ (g : k < i). q.items (after_of c k) ∙ or_left (item a (after_of c k)) _ (p.all k g e))
        (λ (g : i ≤ k). q.items (after_of c k) ∙ or_right (item a (after_of c k)) _ (eq-eqb x (after_of c k) (ex ∙ ap (after_of c) (let v : i ≡ k = omega arith in v)))) (lt_or_ge k i);
    from = λ y e.
        ⊎_elim
        (λ g.
        let t = p.from y g in
        let d : t.0 < i = t.1 in
        (t.0, omega arith, t.2, t.3))
        (λ g. (i, omega arith, h, sym ex ∙ eqb-true x y g))
        (or_cases (item a y) (eqb x y) (sym (q.items y) ∙ e));
  }

  -- no item of s stands before a symbol that is not among them
  pub stays : (a : List ℕ) (x : ℕ) → Afters c s item_limit a → item a x ≡ false → Stays c s x
  stays a x p e i l h f = true≢false (sym (p.all i l h) ∙ ap (item a) f ∙ e)
