-- The items of a path, by closure and advance; and the automaton of the numbered states of the definition.
use Prim.Native.Nat.{ℕ, suc, zero, ◌+◌, ◌≤◌, ◌<◌}
use mathlib.Core.Path.{◌≡◌, refl, sym, ◌∙◌, subst}
use mathlib.Core.Logic.{◌↔◌, ◌≢◌}
use mathlib.Core.List.{List, [], ◌∷◌, ◌++◌}
use lib.ListN.{length, drop}
use native.Mathlib.Omega.{arith}
use native.Mathlib.Decide.{ℕ_discrete}
use mathlib.Core.Logic.{◌⊎◌, inl, inr}
use Rattle.grammar.specs.Grammar.{Grammar, Formed, Symbols}
use Rattle.lr.proofs.Canonical.{Canonical, in_core, by_path, start_viable}
use Rattle.lr.specs.Items
use Rattle.lr.proofs.ItemLaws.{AllProductive, snoc_last, not_snoc}
use Rattle.lr.proofs.Automaton.{Automaton, CoreClosure, given, opened, CoreAdvanced, advanced, Goes, goes, CoreStart, core_start, walk, walk_snoc, Lookahead, item_opened, closure_items, Sits, sits_lookahead, lookahead_sits, lookahead_merged}
use Rattle.lr.specs.States.{States}

pub symbols_at_is : (d : ℕ) {n x : ℕ} {l β : List ℕ} → Symbols n l → drop d l ≡ x ∷ β → x < n
symbols_at_is zero Symbols.none e = absurd (let z : ◌≡◌ {A = ℕ} 0 1 = cc in omega arith)
symbols_at_is zero {n} {x} (Symbols.more {a} h k s) e = let ex : a ≡ x = cc in rw (← ex) k
symbols_at_is (suc d) Symbols.none e = absurd (let z : ◌≡◌ {A = ℕ} 0 1 = cc in omega arith)
symbols_at_is (suc d) (Symbols.more h k s) e = symbols_at_is d s e

module _ (g : Grammar) (next : ℕ → ℕ → ℕ) where
  -- state q has the item, on a path
  pub record Has (q r d : ℕ) : Type 0 where
    pub path : List ℕ
    pub leads : walk next 0 path ≡ q
    pub item : Items.Item g path r d

module _ (g : Grammar) (f : Formed g) (pr : AllProductive g) where
  -- an item's production, lookahead and symbols are the grammar's
  production_of_is : {γ : List ℕ} {r d a : ℕ} → Canonical g γ r d a → (r ≡ g.productions) ⊎ (r < g.productions)
  production_of_is Canonical.start = inl refl
  production_of_is (Canonical.close i e h fi) = inr h
  production_of_is (Canonical.goto i e) = production_of_is i

  right_of : {r : ℕ} → (r ≡ g.productions) ⊎ (r < g.productions) → Symbols (g.terminals + g.nonterminals) (g.right r)
  right_of (inl e) = rw (e, f.added) (Symbols.more f.end_marker (omega (arith, f.start_nonterminal)) Symbols.none)
  right_of (inr h) = f.right_symbols _ h

  pub symbol_below : {γ β : List ℕ} {r d a x : ℕ} → Canonical g γ r d a → drop d (g.right r) ≡ x ∷ β → x < g.terminals + g.nonterminals
  symbol_below {d = d} i e = symbols_at_is d (right_of (production_of_is i)) e

  pub moved_item : {γ : List ℕ} {x : ℕ} (r d : ℕ) → CoreAdvanced g (Items.Item g γ) x r d → Items.Item g (γ ++ x ∷ []) r d
  moved_item r d (advanced (Items.with_lookahead _ i) e) = in_core (Canonical.goto (by_path i) e)

  at_same : {γ γ' : List ℕ} {x x' r d : ℕ} → γ ≡ γ' → x ≡ x' → CoreAdvanced g (Items.Item g γ) x r d → CoreAdvanced g (Items.Item g γ') x' r d
  at_same e k a = rw (← e, ← k) a

  pub items_behind : {δ γ : List ℕ} {r d a x : ℕ} → Canonical g δ r d a → δ ≡ γ ++ x ∷ [] → CoreClosure g (CoreAdvanced g (Items.Item g γ) x) r d
  items_behind {γ = γ} {x = x} Canonical.start e = absurd (not_snoc γ x e)
  items_behind (Canonical.close i k h fi) e = opened (items_behind i e) k h
  items_behind {γ = γ} {x = x} (Canonical.goto {γ = γ'} {x = x'} i k) e = let t = snoc_last γ' γ x' x e in given (at_same t.0 t.1 (advanced (in_core i) k))

  pub items_first : {δ : List ℕ} {r d a : ℕ} → Canonical g δ r d a → δ ≡ [] → CoreClosure g (CoreStart g) r d
  items_first Canonical.start e = given core_start
  items_first (Canonical.close i k h fi) e = opened (items_first i e) k h
  items_first (Canonical.goto {γ} {x = x} i k) e = absurd (not_snoc γ x (sym e))

  closure_map : {k k' : ℕ → ℕ → Type 0} → ((r d : ℕ) → k r d → k' r d) → {r d : ℕ} → CoreClosure g k r d → CoreClosure g k' r d
  closure_map m (given h) = given (m _ _ h)
  closure_map m (opened c e h) = opened (closure_map m c) e h

  module _ (count : ℕ) (next : ℕ → ℕ → ℕ) (st : States g count next) where
    -- and so on each path
    on_path : {γ : List ℕ} {r d : ℕ} → Items.Viable g γ → Has g next (walk next 0 γ) r d → Items.Item g γ r d
    on_path v h = ((st.merged (Items.by_item h.item) v).0 h.leads).to _ _ h.item

    of_item : {γ : List ℕ} {r d : ℕ} → Items.Item g γ r d → Has g next (walk next 0 γ) r d
    of_item {γ} i = record { path = γ; leads = refl; item = i }

    behind : {γ : List ℕ} (x : ℕ) {r d : ℕ} → Items.Item g (γ ++ x ∷ []) r d → CoreClosure g (CoreAdvanced g (Items.Item g γ) x) r d
    behind x (Items.with_lookahead _ i) = items_behind (by_path i) refl

    advanced_goes : {γ : List ℕ} {x r d : ℕ} → CoreClosure g (CoreAdvanced g (Items.Item g γ) x) r d → Goes g (Has g next (walk next 0 γ)) x
    advanced_goes (given (advanced i e)) = goes (of_item i) e
    advanced_goes (opened c e h) = advanced_goes c

    viable_goes : (γ : List ℕ) (x : ℕ) → Items.Viable g (γ ++ x ∷ []) → Goes g (Has g next (walk next 0 γ)) x
    viable_goes γ x (Items.by_item i) = advanced_goes {γ = γ} (behind x i)

    goes_viable : {γ : List ℕ} {x : ℕ} → Items.Viable g γ → Goes g (Has g next (walk next 0 γ)) x → Items.Viable g (γ ++ x ∷ [])
    goes_viable v (goes h e) = go (on_path v h) e
      where
        go : {γ β : List ℕ} {x r d : ℕ} → Items.Item g γ r d → drop d (g.right r) ≡ x ∷ β → Items.Viable g (γ ++ x ∷ [])
        go (Items.with_lookahead _ i) e = Items.by_item (in_core (Canonical.goto (by_path i) e))

    starts : (r d : ℕ) → Has g next 0 r d ↔ CoreClosure g (CoreStart g) r d
    starts r d = (λ h. first (on_path (start_viable g) h), λ c. of_item (closure_items g f pr one c))
      where
        first : {r d : ℕ} → Items.Item g [] r d → CoreClosure g (CoreStart g) r d
        first (Items.with_lookahead _ i) = items_first (by_path i) refl

        one : (r d : ℕ) → CoreStart g r d → Items.Item g [] r d
        one r d core_start = in_core Canonical.start

    below : (γ : List ℕ) (x : ℕ) → Items.Viable g γ → next (walk next 0 γ) x < count
    below γ x v = go (ℕ_discrete (next (walk next 0 γ) x) 0)
      where
        go : Dec (next (walk next 0 γ) x ≡ 0) → next (walk next 0 γ) x < count
        go (yes e) = rw e (st.below (start_viable g))
        go (no nz) = rw (walk_snoc next 0 γ x) at (st.below ((st.moved v x).0 nz))

    moved_has : (γ : List ℕ) (x : ℕ) → Items.Viable g γ → Items.Viable g (γ ++ x ∷ []) → (r d : ℕ) → Has g next (next (walk next 0 γ) x) r d ↔ CoreClosure g (CoreAdvanced g (Has g next (walk next 0 γ)) x) r d
    moved_has γ x v w r d = rw (← walk_snoc next 0 γ x) (to, back)
      where
        up : (r d : ℕ) → CoreAdvanced g (Items.Item g γ) x r d → CoreAdvanced g (Has g next (walk next 0 γ)) x r d
        up r d (advanced i e) = advanced (of_item i) e

        down : (r d : ℕ) → CoreAdvanced g (Has g next (walk next 0 γ)) x r d → CoreAdvanced g (Items.Item g γ) x r d
        down r d (advanced i e) = advanced (on_path v i) e

        to : Has g next (walk next 0 (γ ++ x ∷ [])) r d → CoreClosure g (CoreAdvanced g (Has g next (walk next 0 γ)) x) r d
        to h = closure_map up (behind x (on_path w h))

        back : CoreClosure g (CoreAdvanced g (Has g next (walk next 0 γ)) x) r d → Has g next (walk next 0 (γ ++ x ∷ [])) r d
        back c = of_item (closure_items g f pr moved_item (closure_map down c))

    -- its production is the grammar's, or the added one
    pub item_production : {q r d : ℕ} → Has g next q r d → r ≤ g.productions
    item_production h = go h.item
      where
        most : {r : ℕ} → (r ≡ g.productions) ⊎ (r < g.productions) → r ≤ g.productions
        most (inl e) = omega arith
        most (inr h) = omega arith

        go : {γ : List ℕ} {r d : ℕ} → Items.Item g γ r d → r ≤ g.productions
        go (Items.with_lookahead _ i) = most (production_of_is (by_path i))

    pub state_automaton : Automaton g count (Has g next) next
    state_automaton =
        record {
          some_state = st.below (start_viable g);
          start = starts;
          closed = λ h e k. record { path = h.path; leads = h.leads; item = item_opened g f pr h.item e k };
          next_below = λ {q} {x} h. let t = st.every q h in subst (λ (p : ℕ). next p x < count) t.2 (below t.0 x t.1);
          next_some = λ {q} {x} h. let t = st.every q h in subst (λ (p : ℕ). (next p x ≢ 0) ↔ Goes g (Has g next p) x) t.2 ((λ nz. viable_goes t.0 x ((st.moved t.1 x).0 nz), λ go. (st.moved t.1 x).1 (goes_viable t.1 go)));
          next_has = λ {q} {x} h nz r d. (let t = st.every q h in
              subst (λ (p : ℕ). next p x ≢ 0 → (r d : ℕ) → Has g next (next p x) r d ↔ CoreClosure g (CoreAdvanced g (Has g next p) x) r d) t.2 (λ nz r d. moved_has t.0 x t.1 ((st.moved t.1 x).0 nz) r d) nz r d);
          distinct = λ {q} {q'} h h' e. (let t = st.every q h in let t' = st.every q' h' in
              sym t.2 ∙ (st.merged t.1 t'.1).1 (record { to = λ r d i. on_path t'.1 (rw (← t'.2) at ((e r d).0 (rw t.2 at (of_item i)))); from = λ r d i. on_path t.1 (rw (← t.2) at ((e r d).1 (rw t'.2 at (of_item i)))) }) ∙ t'.2);
        }

    -- the lookaheads of a state by paths: those that the complete item has on some path to it
    pub lookahead_exact : {q r a : ℕ} → Lookahead g next q r a ↔ Sits g next q r (length (g.right r)) a
    lookahead_exact = (λ h. lookahead_sits g f pr count (Has g next) next state_automaton h, λ s. sits_lookahead g s)

    -- and those of the merged set of any path to it
    pub merged_exact : {γ : List ℕ} {r m : ℕ} → Items.Viable g γ → Lookahead g next (walk next 0 γ) r m ↔ Items.Merged g γ r (length (g.right r)) m
    merged_exact {γ} v = (λ a. lookahead_merged g f pr count (Has g next) next state_automaton v a, λ h. record { path = γ; leads = refl; merged = h })
