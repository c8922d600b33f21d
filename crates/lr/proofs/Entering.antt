-- The entering symbol of a state: each state has one, and one only. And what an array of entering symbols must hold.
use Prim.Native.Nat.{ℕ, suc, ◌+◌, ◌<◌}
use mathlib.Core.Path.{◌≡◌, refl, sym, ap, ◌∙◌, subst}
use mathlib.Core.Logic.{◌↔◌, ◌≢◌}
use mathlib.Core.List.{List, [], ◌∷◌, ◌++◌}
use lib.ListN.{get_or}
use native.Mathlib.Omega.{arith}
use Rattle.grammar.specs.Grammar.{Grammar, Formed}
use Rattle.lr.specs.Items
use Rattle.lr.specs.Items.{walk}
use Rattle.lr.specs.States.{States}
use Rattle.lr.specs.Cells.{Entered, start, last}
use Rattle.lr.proofs.Canonical.{Canonical, in_core, by_path}
use Rattle.lr.proofs.ItemLaws.{AllProductive, snoc_last, not_snoc, first_at}
use Rattle.lr.proofs.Automaton.{walk_snoc}
use Rattle.lr.proofs.Paths.{symbol_below}

module _ (g : Grammar) where
  -- the set behind a path that ends in a symbol has an item with a moved dot
  kernel : {δ : List ℕ} {r d a : ℕ} → Canonical g δ r d a → (γ : List ℕ) (x : ℕ) → δ ≡ γ ++ x ∷ [] → (s : ℕ) × (i : ℕ) × Items.Item g δ s (suc i)
  kernel Canonical.start γ x e = absurd (not_snoc γ x e)
  kernel (Canonical.close i k h fi) γ x e = kernel i γ x e
  kernel (Canonical.goto {r} {d} i k) γ x e = (r, d, in_core (Canonical.goto i k))

  -- and the dot was moved over that symbol
  moved_over : {δ : List ℕ} {r d i a : ℕ} → Canonical g δ r d a → d ≡ suc i → (γ : List ℕ) (x : ℕ) → δ ≡ γ ++ x ∷ [] → get_or (g.right r) i 0 ≡ x
  moved_over Canonical.start k γ x e = absurd (omega arith)
  moved_over (Canonical.close j k h fi) n γ x e = absurd (omega arith)
  moved_over {i} (Canonical.goto {γ = γ'} {r = r} {d = d} {x = y} j k) n γ x e =
      let o : d ≡ i = omega arith in
      rw (← o) (first_at d (g.right r) k) ∙ (snoc_last γ' γ y x e).1

  -- so sets with one core are entered under one symbol
  pub one_symbol : (γ δ : List ℕ) (x y : ℕ) → Items.Viable g (γ ++ x ∷ []) → Items.SameCore g (γ ++ x ∷ []) (δ ++ y ∷ []) → x ≡ y
  one_symbol γ δ x y (Items.by_item (Items.with_lookahead _ i)) s = let t = kernel (by_path i) γ x refl in go t.2 (s.to t.0 (suc t.1) t.2)
    where
      go : {r d : ℕ} → Items.Item g (γ ++ x ∷ []) r (suc d) → Items.Item g (δ ++ y ∷ []) r (suc d) → x ≡ y
      go (Items.with_lookahead _ i) (Items.with_lookahead _ j) = sym (moved_over (by_path i) refl γ x refl) ∙ moved_over (by_path j) refl δ y refl

  -- a path leads somewhere where one symbol more does
  front_viable : {δ : List ℕ} {r d a : ℕ} → Canonical g δ r d a → (γ : List ℕ) (x : ℕ) → δ ≡ γ ++ x ∷ [] → Items.Viable g γ
  front_viable Canonical.start γ x e = absurd (not_snoc γ x e)
  front_viable (Canonical.close i k h fi) γ x e = front_viable i γ x e
  front_viable (Canonical.goto {γ = γ'} {x = y} i k) γ x e = subst (Items.Viable g) (snoc_last γ' γ y x e).0 (Items.by_item (in_core i))

  pub before_last : (γ : List ℕ) (x : ℕ) → Items.Viable g (γ ++ x ∷ []) → Items.Viable g γ
  before_last γ x (Items.by_item (Items.with_lookahead _ i)) = front_viable (by_path i) γ x refl

  -- the last symbol of a path is one of the grammar's
  last_below : Formed g → AllProductive g → {δ : List ℕ} {r d a : ℕ} → Canonical g δ r d a → (γ : List ℕ) (x : ℕ) → δ ≡ γ ++ x ∷ [] → x < g.terminals + g.nonterminals
  last_below f pr Canonical.start γ x e = absurd (not_snoc γ x e)
  last_below f pr (Canonical.close i k h fi) γ x e = last_below f pr i γ x e
  last_below f pr (Canonical.goto {γ = γ'} {x = y} i k) γ x e = rw (← (snoc_last γ' γ y x e).1) (symbol_below g f pr i k)

  pub entered_below : Formed g → AllProductive g → {next : ℕ → ℕ → ℕ} {q x : ℕ} → Entered g next q x → x < g.terminals + g.nonterminals
  entered_below f pr (start e) = omega (arith, f.end_marker)
  entered_below f pr (last γ {x} (Items.by_item (Items.with_lookahead _ i)) e) = last_below f pr (by_path i) γ x refl

module _ (g : Grammar) {count : ℕ} {next : ℕ → ℕ → ℕ} (st : States g count next) where
  -- the transition on the last symbol of a path
  pub last_move : (γ : List ℕ) (x : ℕ) → Items.Viable g (γ ++ x ∷ []) → (walk next 0 γ < count) × (next (walk next 0 γ) x ≢ 0)
  last_move γ x v = let u = before_last g γ x v in (st.below u, (st.moved u x).1 v)

  never_start : (γ : List ℕ) (x : ℕ) → Items.Viable g (γ ++ x ∷ []) → walk next 0 (γ ++ x ∷ []) ≢ 0
  never_start γ x v e = (last_move γ x v).1 (sym (walk_snoc next 0 γ x) ∙ e)

  -- a transition leads to a state that is entered under its symbol
  pub move_enters : (p x : ℕ) → p < count → next p x ≢ 0 → Entered g next (next p x) x
  move_enters p x h nz =
      let t = st.every p h in
      last t.0 ((st.moved t.1 x).0 (rw t.2 nz)) (walk_snoc next 0 t.0 x ∙ ap (λ (i : ℕ). next i x) t.2)

  pub one_entered : {q x y : ℕ} → Entered g next q x → Entered g next q y → x ≡ y
  one_entered (start e) (start k) = refl
  one_entered (start e) (last γ {x} v k) = absurd (never_start γ x v (k ∙ e))
  one_entered (last γ {x} v k) (start e) = absurd (never_start γ x v (k ∙ e))
  one_entered (last γ {x} v e) (last δ {x = y} u k) = one_symbol g γ δ x y v ((st.merged v u).0 (e ∙ sym k))

  path_entered : {γ : List ℕ} {r d a : ℕ} → Canonical g γ r d a → (x : ℕ) × Entered g next (walk next 0 γ) x
  path_entered Canonical.start = (0, start refl)
  path_entered (Canonical.close i k h fi) = path_entered i
  path_entered (Canonical.goto {γ = γ} {x = x} i k) = (x, last γ (Items.by_item (in_core (Canonical.goto i k))) refl)

  pub some_entered : (q : ℕ) → q < count → (x : ℕ) × Entered g next q x
  some_entered q h = go (st.every q h)
    where
      of : {γ : List ℕ} → Items.Viable g γ → (x : ℕ) × Entered g next (walk next 0 γ) x
      of (Items.by_item (Items.with_lookahead _ i)) = path_entered (by_path i)

      go : (γ : List ℕ) × Items.Viable g γ × (walk next 0 γ ≡ q) → (x : ℕ) × Entered g next q x
      go t = subst (λ (p : ℕ). (x : ℕ) × Entered g next p x) t.2 (of t.1)

  -- e q is the entering symbol of each state q, where it is 0 for state 0 and, behind each transition, its symbol
  module _ (e : ℕ → ℕ) (zero_is : e 0 ≡ 0) (moves : (p x : ℕ) → p < count → next p x ≢ 0 → e (next p x) ≡ x) where
    entry_is : {q x : ℕ} → Entered g next q x → e q ≡ x
    entry_is (start k) = ap e k ∙ zero_is
    entry_is (last γ {x} v k) = let m = last_move γ x v in ap e (sym k ∙ walk_snoc next 0 γ x) ∙ moves (walk next 0 γ) x m.0 m.1

    pub entries : (q x : ℕ) → q < count → (e q ≡ x) ↔ Entered g next q x
    entries q x h = (λ k. subst (Entered g next q) (sym (entry_is (some_entered q h).1) ∙ k) (some_entered q h).1, entry_is)
