-- The states that are found are the canonical LR(1) states merged by core, numbered as the paper says.
use mathlib.Core.Path.{◌≡◌, refl, sym, ◌∙◌}
use mathlib.Core.Logic.{◌↔◌, ◌≢◌, ◌⊎◌, inl, inr}
use mathlib.Core.List.{List, [], ◌∷◌, ◌++◌}
use Prim.Native.Nat.{ℕ, zero, suc, ◌+◌, ◌^◌, ◌≤◌, ◌<◌}
use native.Mathlib.Omega.{arith}
use native.Mathlib.Decide.{ℕ_discrete, dec_lt}
use lib.ListN.{length, get_or, drop, get_or-eq_default}
use Rattle.grammar.specs.Grammar.{Grammar, Formed, Symbols}
use Rattle.lr.proofs.Canonical.{Canonical, in_core, by_path, start_viable}
use Rattle.lr.specs.Items
use Rattle.lr.proofs.ItemLaws.{AllProductive}
use Rattle.lr.proofs.Automaton.{Automaton, CoreClosure, given, opened, CoreAdvanced, advanced, Goes, goes, CoreStart, core_start, walk, has_of, item_of, same_state, same_core}
use Rattle.lr.proofs.RelationLaws.{went, after_viable}
use Rattle.lr.proofs.Automaton.{item_opened, closure_items}
use Rattle.lr.proofs.Paths.{symbols_at_is, moved_item, items_behind, items_first}
use Rattle.lr.specs.States.{Taken, row_of, States, MoreStates}
use Rattle.lalr.specs.ComputedStates
use Rattle.lalr.specs.ComputedStates.{first, total, goto, start, states}
use Rattle.sets.proofs.BitLaws.{bit_zero}
use Rattle.lalr.proofs.Members.{All, none, some}
use Rattle.lalr.proofs.Lists.{not-true}
use Rattle.sets.proofs.ListLaws.{each_list}
use Rattle.lalr.proofs.ItemLaws.{In, goto_exact, goto_small, start_exact, start_small, goto_goes, goes_goto, same_sets, closure_map}
use Rattle.lalr.proofs.Explore.{Inv, Entry, no_move, move, Explored, explored, all_at, distinct_at, Distinct, none_twice, new_first, none_in, taken_same}

module _ (g : Grammar) (f : Formed g) (pr : AllProductive g) where
  -- the set s has the items of a path
  pub record Good (s : ℕ) : Type 0 where
    pub small : s < 2 ^ total g
    pub path : List ℕ
    pub viable : Items.Viable g path
    pub items : (r d : ℕ) → In g s r d ↔ Items.Item g path r d

  good_start : Good (start g)
  good_start =
      record {
        small = start_small g;
        path = [];
        viable = start_viable g;
        items = λ r d. (λ i. closure_items g f pr first_one ((start_exact g r d).0 i), λ i. (start_exact g r d).1 (back i));
      }
    where
      first_one : (r d : ℕ) → CoreStart g r d → Items.Item g [] r d
      first_one r d core_start = in_core Canonical.start

      back : {r d : ℕ} → Items.Item g [] r d → CoreClosure g (CoreStart g) r d
      back (Items.with_lookahead _ i) = items_first g f pr (by_path i) refl

  pub keeps : (s x : ℕ) → Good s → goto g s x ≢ 0 → Good (goto g s x)
  keeps s x p ne =
      record {
        small = goto_small g s x;
        path = p.path ++ x ∷ [];
        viable = via (goto_goes g s x ne);
        items = λ r d. (λ i. closure_items g f pr (moved_item g f pr) (closure_map g up ((goto_exact g s x r d).0 i)), λ i. (goto_exact g s x r d).1 (closure_map g down (behind i)));
      }
    where
      up : (r d : ℕ) → CoreAdvanced g (In g s) x r d → CoreAdvanced g (Items.Item g p.path) x r d
      up r d (advanced {d = d'} i e) = advanced ((p.items r d').0 i) e

      down : (r d : ℕ) → CoreAdvanced g (Items.Item g p.path) x r d → CoreAdvanced g (In g s) x r d
      down r d (advanced {d = d'} i e) = advanced ((p.items r d').1 i) e

      behind : {r d : ℕ} → Items.Item g (p.path ++ x ∷ []) r d → CoreClosure g (CoreAdvanced g (Items.Item g p.path) x) r d
      behind (Items.with_lookahead _ i) = items_behind g f pr (by_path i) refl

      via₂ : {r d : ℕ} {β : List ℕ} → Items.Item g p.path r d → drop d (g.right r) ≡ x ∷ β → Items.Viable g (p.path ++ x ∷ [])
      via₂ (Items.with_lookahead _ i) e = Items.by_item (in_core (Canonical.goto (by_path i) e))

      via : Goes g (In g s) x → Items.Viable g (p.path ++ x ∷ [])
      via (goes {r} {d} i e) = via₂ ((p.items r d).0 i) e

  abbrev pub Invariant : ℕ → List ℕ → List (List ℕ) → Type 0
  Invariant i ts rows = Inv Good g keeps (start g) i ts rows

  begin : Invariant 0 (start g ∷ []) []
  begin =
      record {
        distinct = new_first none_in none_twice;
        counted = refl;
        within = omega arith;
        some_set = omega arith;
        first = refl;
        good = some good_start none;
        entries = λ q x h w. absurd (omega arith);
        wide = λ q h. absurd (omega arith);
        order = Taken.none;
      }

  run : Explored Good g keeps (start g) 257 0 (states g)
  unfolding states
  run = explored Good g keeps (start g) 257 0 (start g ∷ []) [] begin

  -- ---- of a complete list
  module _ (ts : List ℕ) (rows : List (List ℕ)) (inv : Invariant (length ts) ts rows) where
    abbrev pub holds : ℕ → ℕ → ℕ → Type 0
    holds q r d = In g (get_or ts q 0) r d

    abbrev pub next : ℕ → ℕ → ℕ
    next q x = ComputedStates.goes g rows q x

    good_at : (q : ℕ) → q < length ts → Good (get_or ts q 0)
    good_at q h = all_at inv.good q h

    symbol_below : {s x : ℕ} → Goes g (In g s) x → x < g.terminals + g.nonterminals
    symbol_below (goes {r} {d} i e) = symbols_at_is d (right_of r i.valid.production (ℕ_discrete r g.productions)) e
      where
        right_of : (r : ℕ) → r ≤ g.productions → Dec (r ≡ g.productions) → Symbols (g.terminals + g.nonterminals) (g.right r)
        right_of r h (yes k) = rw (k, f.added) (Symbols.more f.end_marker (omega (arith, f.start_nonterminal)) Symbols.none)
        right_of r h (no ne) = f.right_symbols r (omega arith)

    entry : (q x : ℕ) → q < length ts → Entry Good ts (goto g (get_or ts q 0) x) (next q x)
    entry q x h = go (dec_lt x (g.terminals + g.nonterminals)) (ℕ_discrete (goto g (get_or ts q 0) x) 0)
      where
        go : Dec (x < g.terminals + g.nonterminals) → Dec (goto g (get_or ts q 0) x ≡ 0) → Entry Good ts (goto g (get_or ts q 0) x) (next q x)
        go (yes l) d = inv.entries q x h l
        go (no n) (yes z) = no_move z (get_or-eq_default (get_or rows q []) 0 (let w : length (get_or rows q []) ≡ g.terminals + g.nonterminals = inv.wide q h in omega arith))
        go (no n) (no nz) = absurd (n (symbol_below (goto_goes g (get_or ts q 0) x nz)))

    no_first : {s x r d : ℕ} → CoreClosure g (CoreAdvanced g (In g s) x) r d → r ≡ g.productions → d ≡ 0 → ⊥
    no_first (given (advanced i e)) er ed = omega arith
    no_first (opened c e h) er ed = omega arith

    first_has : holds 0 g.productions 0
    first_has = rw inv.first ((start_exact g g.productions 0).1 (given core_start))

    not_first : (q x n : ℕ) → get_or ts n 0 ≡ goto g (get_or ts q 0) x → n ≢ 0
    not_first q x n e z =
        let i : In g (goto g (get_or ts q 0) x) g.productions 0 = rw (← e, z) first_has in
        no_first ((goto_exact g (get_or ts q 0) x g.productions 0).0 i) refl refl

    some_of : (q x : ℕ) {n : ℕ} → Entry Good ts (goto g (get_or ts q 0) x) n → (n ≢ 0) ↔ Goes g (holds q) x
    some_of q x (no_move z e) = (λ ne. absurd (ne e), λ go. absurd (goes_goto g (get_or ts q 0) x go z))
    some_of q x {n} (move nz h e) = (λ ne. goto_goes g (get_or ts q 0) x nz, λ go. not_first q x n e)

    has_behind : (q x : ℕ) {n : ℕ} → Entry Good ts (goto g (get_or ts q 0) x) n → n ≢ 0 → (r d : ℕ) → holds n r d ↔ CoreClosure g (CoreAdvanced g (holds q) x) r d
    has_behind q x (no_move z e) ne r d = absurd (ne e)
    has_behind q x (move nz h e) ne r d = rw e (goto_exact g (get_or ts q 0) x r d)

    below_of : (q x : ℕ) {n : ℕ} → Entry Good ts (goto g (get_or ts q 0) x) n → n < length ts
    below_of q x (no_move z e) = omega (arith, inv.some_set)
    below_of q x (move nz h e) = h

    closed_of : (q : ℕ) {r d s : ℕ} {β : List ℕ} → holds q r d → drop d (g.right r) ≡ g.left s ∷ β → s < g.productions → holds q s 0
    closed_of q {r} {d} {s} i e h = go (dec_lt q (length ts))
      where
        go : Dec (q < length ts) → holds q s 0
        go (yes l) = let p = good_at q l in (p.items s 0).1 (item_opened g f pr ((p.items r d).0 i) e h)
        go (no ne) = absurd (not-true (rw (get_or-eq_default ts 0 {n = q} (omega arith)) at i.there) (bit_zero (first g r + d)))

    pub automaton : Automaton g (length ts) holds next
    automaton =
        record {
          some_state = inv.some_set;
          start = λ r d. rw inv.first (start_exact g r d);
          closed = λ {q} i e h. closed_of q i e h;
          next_below = λ {q} {x} h. below_of q x (entry q x h);
          next_some = λ {q} {x} h. some_of q x (entry q x h);
          next_has = λ {q} {x} h ne r d. has_behind q x (entry q x h) ne r d;
          distinct = λ {q} {q'} h h' e. distinct_at inv.distinct q q' h h' (same_sets g (get_or ts q 0) (get_or ts q' 0) (good_at q h).small (good_at q' h').small e);
        }

    viable_below : {γ : List ℕ} → Items.Viable g γ → walk next 0 γ < length ts
    viable_below (Items.by_item (Items.with_lookahead _ i)) = (has_of g f pr (length ts) holds next automaton (by_path i)).0

    item_has : {γ : List ℕ} {r d : ℕ} → Items.Item g γ r d → holds (walk next 0 γ) r d
    item_has (Items.with_lookahead _ i) = (has_of g f pr (length ts) holds next automaton (by_path i)).1

    has_item : {γ : List ℕ} {r d : ℕ} → Items.Viable g γ → holds (walk next 0 γ) r d → Items.Item g γ r d
    has_item (Items.by_item (Items.with_lookahead _ i)) h = item_of g f pr (length ts) holds next automaton (by_path i) h

    leads : (q : ℕ) (h : q < length ts) → walk next 0 (good_at q h).path ≡ q
    leads q h =
        let p = good_at q h in
        automaton.distinct {q = walk next 0 p.path} {q' = q} (viable_below p.viable) h (λ r d. (λ i. (p.items r d).1 (has_item p.viable i), λ i. item_has ((p.items r d).0 i)))

    viable_transitions : (γ : List ℕ) (x : ℕ) → Items.Viable g (γ ++ x ∷ []) → next (walk next 0 γ) x ≢ 0
    viable_transitions γ x (Items.by_item (Items.with_lookahead _ i)) = go (items_behind g f pr (by_path i) refl)
      where
        go : {r d : ℕ} → CoreClosure g (CoreAdvanced g (Items.Item g γ) x) r d → next (walk next 0 γ) x ≢ 0
        go (given (advanced (Items.with_lookahead _ j) e)) = let t = has_of g f pr (length ts) holds next automaton (by_path j) in (automaton.next_some t.0).1 (goes t.1 e)
        go (opened c e h) = go c

    order : Taken (row_of g next) (length ts) (length ts)
    order = taken_same (λ q h. sym (each_list (g.terminals + g.nonterminals) (get_or rows q []) (inv.wide q h))) inv.order

    pub are_states : States g (length ts) next
    are_states =
        record {
          below = λ v. viable_below v;
          every = λ q h. ((good_at q h).path, (good_at q h).viable, leads q h);
          merged = λ v v'. (λ e. same_core g f pr (length ts) holds next automaton v v' e, λ s. same_state g f pr (length ts) holds next automaton v v' s);
          moved = λ {γ} v x. (λ nz. after_viable g f pr (length ts) holds next automaton (went g f pr (length ts) holds next automaton v nz), λ w. viable_transitions γ x w);
          order = order;
        }

  -- ---- more than 256 states
  abbrev path_at : {ts : List ℕ} → All Good ts → ℕ → List ℕ
  path_at none i = []
  path_at (some p a) zero = p.path
  path_at (some p a) (suc i) = path_at a i

  pub record On (s : ℕ) (γ : List ℕ) : Type 0 where
    pub viable : Items.Viable g γ
    pub items : (r d : ℕ) → In g s r d ↔ Items.Item g γ r d
    pub small : s < 2 ^ total g

  on_at : {ts : List ℕ} (a : All Good ts) (i : ℕ) → i < length ts → On (get_or ts i 0) (path_at a i)
  on_at none i h = absurd (omega arith)
  on_at (some p a) zero h = record { viable = p.viable; items = p.items; small = p.small }
  on_at (some p a) (suc i) h = on_at a i (omega arith)

  pub more_states : (n : ℕ) {ts : List ℕ} → All Good ts → Distinct ts → n < length ts → MoreStates g n
  more_states n {ts} a d h =
      record {
        path = path_at a;
        viable = λ i k. (on_at a i (omega arith)).viable;
        apart = λ i j hi hj s. distinct_at d i j (omega arith) (omega arith) (eq i j (on_at a i (omega arith)) (on_at a j (omega arith)) s);
      }
    where
      eq : (i j : ℕ) → On (get_or ts i 0) (path_at a i) → On (get_or ts j 0) (path_at a j) → Items.SameCore g (path_at a i) (path_at a j) → get_or ts i 0 ≡ get_or ts j 0
      eq i j o p s = same_sets g (get_or ts i 0) (get_or ts j 0) o.small p.small (λ r d. (λ t. (p.items r d).1 (s.to r d ((o.items r d).0 t)), λ t. (o.items r d).1 (s.from r d ((p.items r d).0 t))))

  -- the two ways that the exploration ends
  pub few : length (states g).rows ≤ 256 → (length (states g).rows ≡ length (states g).sets) × Invariant (length (states g).sets) (states g).sets (states g).rows
  few h = go run.full
    where
      go : (run.taken ≡ length (states g).sets) ⊎ (run.taken ≡ 257 + 0) → (length (states g).rows ≡ length (states g).sets) × Invariant (length (states g).sets) (states g).sets (states g).rows
      go (inl e) = (run.inv.counted ∙ e, rw e at run.inv)
      go (inr e) = absurd (let c : length (states g).rows ≡ run.taken = run.inv.counted in omega arith)

  pub many : 256 < length (states g).rows → MoreStates g 256
  many h = more_states 256 run.inv.good run.inv.distinct (let c : length (states g).rows ≡ run.taken = run.inv.counted in let w : run.taken ≤ length (states g).sets = run.inv.within in omega arith)

  -- a list of more than 256 sets, at any time, is refusal 11
  pub many_sets : 256 < length (states g).sets → 256 < length (states g).rows
  many_sets h = go run.full
    where
      go : (run.taken ≡ length (states g).sets) ⊎ (run.taken ≡ 257 + 0) → 256 < length (states g).rows
      go (inl e) = let c : length (states g).rows ≡ run.taken = run.inv.counted in omega arith
      go (inr e) = let c : length (states g).rows ≡ run.taken = run.inv.counted in omega arith
