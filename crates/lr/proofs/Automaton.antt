-- The numbered states of the LR(0) automaton, the LALR(1) cells over them, and that they are the table of the theory.
use Prim.Native.Nat.{ℕ, suc, ◌<◌}
use mathlib.Core.Path.{◌≡◌, refl, sym, ◌∙◌}
use mathlib.Core.Logic.{◌↔◌, ◌≢◌}
use mathlib.Core.List.{List, [], ◌∷◌, ◌++◌}
use lib.ListN.{length, drop}
use Rattle.grammar.specs.Grammar.{Grammar, Formed}
use Rattle.grammar.proofs.Yield.{Yields}
use Rattle.lr.proofs.Runs
use Rattle.lr.proofs.Canonical.{Canonical, in_core, in_set, by_path}
use Rattle.lr.specs.Items
use Rattle.lr.proofs.Firsts.{first_begins, first_follows}
use Rattle.lr.proofs.Runs.{Act, shift, reduce, accept}
use Rattle.lr.proofs.ItemLaws.{AllProductive, all_made, after_symbols, added_end}
pub use Rattle.lr.specs.Items.{walk, Lookahead}

pub walk_snoc : (next : ℕ → ℕ → ℕ) (q : ℕ) (γ : List ℕ) (x : ℕ) → walk next q (γ ++ x ∷ []) ≡ next (walk next q γ) x
walk_snoc next q [] x = refl
walk_snoc next q (y ∷ γ) x = walk_snoc next (next q y) γ x

pub walk_append : (next : ℕ → ℕ → ℕ) (q : ℕ) (γ δ : List ℕ) → walk next q (γ ++ δ) ≡ walk next (walk next q γ) δ
walk_append next q [] δ = refl
walk_append next q (y ∷ γ) δ = walk_append next (next q y) γ δ

module _ (g : Grammar) where
  -- on some path to state q the item has the lookahead a
  pub record Sits (next : ℕ → ℕ → ℕ) (q r d a : ℕ) : Type 0 where
    pub path : List ℕ
    pub leads : walk next 0 path ≡ q
    pub item : Canonical g path r d a

  -- a set is merged with itself
  pub merged_self : {γ : List ℕ} {r d a : ℕ} → Canonical g γ r d a → Items.Merged g γ r d a
  merged_self {γ} i = record { path = γ; same = record { to = λ r d j. j; from = λ r d j. j }; item = in_set i }

  pub merged_item : {γ : List ℕ} {r d a : ℕ} → Items.Merged g γ r d a → Items.Item g γ r d
  merged_item m = m.same.from _ _ (Items.with_lookahead _ m.item)

  pub merged_viable : {γ : List ℕ} {r d a : ℕ} → Items.Merged g γ r d a → Items.Viable g γ
  merged_viable m = Items.by_item (merged_item m)

  pub sits_lookahead : {next : ℕ → ℕ → ℕ} {q r a : ℕ} → Sits next q r (length (g.right r)) a → Lookahead g next q r a
  sits_lookahead s = record { path = s.path; leads = s.leads; merged = merged_self s.item }

  pub data CoreClosure (kernel : ℕ → ℕ → Type 0) : ℕ → ℕ → Type 0 where
    given : {r d : ℕ} → kernel r d → CoreClosure kernel r d
    opened : {r d s : ℕ} {β : List ℕ} → CoreClosure kernel r d → drop d (g.right r) ≡ g.left s ∷ β → s < g.productions → CoreClosure kernel s 0

  pub data CoreStart : ℕ → ℕ → Type 0 where
    core_start : CoreStart g.productions 0

  pub data CoreAdvanced (has : ℕ → ℕ → Type 0) (x : ℕ) : ℕ → ℕ → Type 0 where
    advanced : {r d : ℕ} {β : List ℕ} → has r d → drop d (g.right r) ≡ x ∷ β → CoreAdvanced has x r (suc d)

  pub data Goes (has : ℕ → ℕ → Type 0) (x : ℕ) : Type 0 where
    goes : {r d : ℕ} {β : List ℕ} → has r d → drop d (g.right r) ≡ x ∷ β → Goes has x

  pub record Automaton (count : ℕ) (has : ℕ → ℕ → ℕ → Type 0) (next : ℕ → ℕ → ℕ) : Type 0 where
    pub some_state : 0 < count
    pub start : (r d : ℕ) → has 0 r d ↔ CoreClosure CoreStart r d
    pub closed : {q r d s : ℕ} {β : List ℕ} → has q r d → drop d (g.right r) ≡ g.left s ∷ β → s < g.productions → has q s 0
    pub next_below : {q x : ℕ} → q < count → next q x < count
    pub next_some : {q x : ℕ} → q < count → (next q x ≢ 0) ↔ Goes (has q) x
    pub next_has : {q x : ℕ} → q < count → next q x ≢ 0 → (r d : ℕ) → has (next q x) r d ↔ CoreClosure (CoreAdvanced (has q) x) r d
    pub distinct : {q q' : ℕ} → q < count → q' < count → ((r d : ℕ) → has q r d ↔ has q' r d) → q ≡ q'

  pub record Cells (count : ℕ) (has : ℕ → ℕ → ℕ → Type 0) (next : ℕ → ℕ → ℕ) (cell : ℕ → ℕ → Act) : Type 0 where
    pub shifts : {q m : ℕ} → q < count → (cell q m ≡ shift) ↔ ((m < g.terminals) × (next q m ≢ 0))
    pub reduces : {q m r : ℕ} → q < count → (cell q m ≡ reduce r) ↔ ((r < g.productions) × Lookahead g next q r m)
    pub accepts : {q m : ℕ} → q < count → (cell q m ≡ accept) ↔ ((m ≡ 0) × has q g.productions 1)

  module _ (f : Formed g) (pr : AllProductive g) where
    -- items are closed: some lookahead comes with each opened production, since what follows it yields something
    pub item_opened : {γ β : List ℕ} {r d s : ℕ} → Items.Item g γ r d → drop d (g.right r) ≡ g.left s ∷ β → s < g.productions → Items.Item g γ s 0
    item_opened {γ} {β} {r} {d} {s} (Items.with_lookahead a i) e h = go (all_made g f pr (after_symbols g f pr (by_path i) e))
      where
        go₂ : {p : List ℕ} (w : List ℕ) → Yields g β p w → Items.Item g γ s 0
        go₂ [] y = in_core (Canonical.close (by_path i) e h (first_follows g y refl))
        go₂ (b ∷ w) y = in_core (Canonical.close (by_path i) e h (first_begins g y))

        go : ((p : List ℕ) × (w : List ℕ) × Yields g β p w) → Items.Item g γ s 0
        go t = go₂ t.1 t.2

    pub closure_items : {γ : List ℕ} {kernel : ℕ → ℕ → Type 0} → ((r d : ℕ) → kernel r d → Items.Item g γ r d) → {r d : ℕ} → CoreClosure kernel r d → Items.Item g γ r d
    closure_items k (given h) = k _ _ h
    closure_items k (opened c e h) = item_opened (closure_items k c) e h

  module _ (f : Formed g) (pr : AllProductive g) (count : ℕ) (has : ℕ → ℕ → ℕ → Type 0) (next : ℕ → ℕ → ℕ) (au : Automaton count has next) where
    -- an item of a path's LR(1) state is in the state that the path leads to
    pub has_of : {γ : List ℕ} {r d a : ℕ} → Canonical g γ r d a → (walk next 0 γ < count) × has (walk next 0 γ) r d
    has_of Canonical.start = (au.some_state, (au.start g.productions 0).1 (given core_start))
    has_of (Canonical.close i e h fi) = let t = has_of i in (t.0, au.closed t.1 e h)
    has_of (Canonical.goto {γ} {r} {d} {x} i e) =
        let t = has_of i in
        rw walk_snoc (au.next_below t.0, (au.next_has t.0 ((au.next_some t.0).1 (goes t.1 e)) r (suc d)).1 (given (advanced t.1 e)))

    -- and conversely
    pub item_of : {γ : List ℕ} {r₀ d₀ a₀ : ℕ} → Canonical g γ r₀ d₀ a₀ → {r d : ℕ} → has (walk next 0 γ) r d → Items.Item g γ r d
    item_of Canonical.start {r} {d} h = closure_items f pr go ((au.start r d).0 h)
      where
        go : (r d : ℕ) → CoreStart r d → Items.Item g [] r d
        go r d core_start = in_core Canonical.start
    item_of (Canonical.close i e h' fi) h = item_of i h
    item_of (Canonical.goto {γ} {r = r'} {d = d'} {x = x} i e) {r} {d} h =
        let t = has_of i in
        closure_items f pr (go (λ r d h. item_of i h)) ((au.next_has t.0 ((au.next_some t.0).1 (goes t.1 e)) r d).0 (rw walk_snoc at h))
      where
        step : {r d : ℕ} {β : List ℕ} → Items.Item g γ r d → drop d (g.right r) ≡ x ∷ β → Items.Item g (γ ++ x ∷ []) r (suc d)
        step (Items.with_lookahead _ j) e' = in_core (Canonical.goto (by_path j) e')

        go : ((r d : ℕ) → has (walk next 0 γ) r d → Items.Item g γ r d) → (r d : ℕ) → CoreAdvanced (has (walk next 0 γ)) x r d → Items.Item g (γ ++ x ∷ []) r d
        go ih r d (advanced h' e') = step (ih _ _ h') e'

    pub viable_below : {γ : List ℕ} → Items.Viable g γ → walk next 0 γ < count
    viable_below (Items.by_item (Items.with_lookahead _ i)) = (has_of (by_path i)).0

    pub item_has : {γ : List ℕ} {r d : ℕ} → Items.Item g γ r d → has (walk next 0 γ) r d
    item_has (Items.with_lookahead _ i) = (has_of (by_path i)).1

    pub has_item : {γ : List ℕ} {r d : ℕ} → Items.Viable g γ → has (walk next 0 γ) r d → Items.Item g γ r d
    has_item (Items.by_item (Items.with_lookahead _ i)) h = item_of (by_path i) h

    -- paths have the same core just where they lead to the same state
    pub same_state : {γ γ' : List ℕ} → Items.Viable g γ → Items.Viable g γ' → Items.SameCore g γ γ' → walk next 0 γ ≡ walk next 0 γ'
    same_state v v' s = au.distinct (viable_below v) (viable_below v') (λ r d. (λ h. item_has (s.to r d (has_item v h)), λ h. item_has (s.from r d (has_item v' h))))

    pub same_core : {γ γ' : List ℕ} → Items.Viable g γ → Items.Viable g γ' → walk next 0 γ ≡ walk next 0 γ' → Items.SameCore g γ γ'
    same_core v v' e = record { to = λ r d i. has_item v' (rw e at (item_has i)); from = λ r d i. has_item v (rw (← e) at (item_has i)) }

    -- merging by core is merging by state
    pub lookahead_sits : {q r a : ℕ} → Lookahead g next q r a → Sits next q r (length (g.right r)) a
    lookahead_sits h =
        let m = h.merged in
        record { path = m.path; leads = sym (same_state (merged_viable m) (Items.by_item (Items.with_lookahead _ m.item)) m.same) ∙ h.leads; item = by_path m.item }

    pub lookahead_merged : {γ : List ℕ} {r a : ℕ} → Items.Viable g γ → Lookahead g next (walk next 0 γ) r a → Items.Merged g γ r (length (g.right r)) a
    lookahead_merged v h = let s = lookahead_sits h in record { path = s.path; same = same_core v (Items.by_item (in_core s.item)) (sym s.leads); item = in_set s.item }

    -- the cells over the numbered states are the table of actions
    pub table : (cell : ℕ → ℕ → Act) → Cells count has next cell → Runs.Table g (λ γ m. cell (walk next 0 γ) m)
    table cell c =
        record {
          shifts = λ a h. shifts_of a h;
          reduces = λ {γ} h m. (c.reduces (viable_below (merged_viable m))).1 (h, record { path = γ; leads = refl; merged = m });
          accepts = λ m. (c.accepts (viable_below (merged_viable m))).1 (refl, item_has (merged_item m));
          shift_from = λ v e. shift_from v e;
          reduce_from = λ v e. let t = (c.reduces (viable_below v)).0 e in (t.0, lookahead_merged v t.1);
          accept_from = λ v e. let t = (c.accepts (viable_below v)).0 e in (t.0, ended (has_item v t.1));
        }
      where
        after_has : {γ : List ℕ} {x : ℕ} → Runs.After g γ x → (walk next 0 γ < count) × Goes (has (walk next 0 γ)) x
        after_has (Runs.dot_before (Items.with_lookahead _ i) e) = let t = has_of (by_path i) in (t.0, goes t.1 e)

        shifts_of : {γ : List ℕ} {m : ℕ} → Runs.After g γ m → m < g.terminals → cell (walk next 0 γ) m ≡ shift
        shifts_of a h = let t = after_has a in (c.shifts t.0).1 (h, (au.next_some t.0).1 t.1)

        went : {γ : List ℕ} {x : ℕ} → Items.Viable g γ → Goes (has (walk next 0 γ)) x → Runs.After g γ x
        went v (goes h e) = Runs.dot_before (has_item v h) e

        shift_from : {γ : List ℕ} {m : ℕ} → Items.Viable g γ → cell (walk next 0 γ) m ≡ shift → (m < g.terminals) × Runs.After g γ m
        shift_from v e = let t = (c.shifts (viable_below v)).0 e in (t.0, went v ((au.next_some (viable_below v)).0 t.1))

        ended : {γ : List ℕ} → Items.Item g γ g.productions 1 → Items.Merged g γ g.productions 1 0
        ended {γ} (Items.with_lookahead _ i) = merged_self (rw (added_end g refl (by_path i)) at (by_path i))
