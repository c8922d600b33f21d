-- The states that crate `states` leaves are the numbered states of the definition, or the definition has more than 256.
use mathlib.Core.Bool.{◌&&◌, cond}
use mathlib.Core.List.{List, [], ◌∷◌, ◌++◌}
use mathlib.Core.Logic.{⊎_elim, ◌↔◌, ◌≢◌}
use mathlib.Core.Path.{◌≡◌, refl, sym, ap, ◌∙◌}
use Prim.Native.Nat.{ℕ, zero, suc, ◌+◌, ◌≤◌, ◌<◌}
use native.Mathlib.Decide.{ℕ_discrete, dec_lt}
use native.Mathlib.Nat.{le_refl}
use native.Mathlib.Omega.{arith}
use lib.Dec.{eqb, ltb}
use lib.ListN.{get_or, set, drop}
use borrow.Author.Tests.{lt-ltb, le-ltb, eq-eqb, ne_eqb}
use Rattle.automaton.proofs.ItemNumbers.{In, AllValid, closed_opened, closure_map, start_items, start_all, goes_items, goes_valid, goes_on, stays_put, goes_symbol, alike}
use Rattle.automaton.proofs.OrderedStates.{ordered_states}
use Rattle.closures.specs.Areas.{slot}
use Rattle.grammar.proofs.CardLaws.{WellFormed, formed}
use Rattle.grammar.specs.Card.{terminals, nonterminals, productions, left_of, right_of, grammar_of}
use Rattle.lr.proofs.ItemLaws.{AllProductive}
use Rattle.sets.proofs.HasLaws.{lt_or_ge}
use Rattle.sets.proofs.ListLaws.{each_same}
use Rattle.sets.specs.Lists.{each}
use Rattle.states.proofs.RowLaws.{given_known}
use Rattle.states.proofs.TableLaws.{transition_none, taken_same}
use Rattle.lr.proofs.Canonical.{Canonical, in_core, by_path, start_viable}
use Rattle.lr.specs.Items
use Rattle.lr.specs.States.{Given, Taken, row_of as cells_of, States, MoreStates}
use Rattle.lr.proofs.Automaton.{Automaton, CoreClosure, given, opened, CoreStart, core_start, CoreAdvanced, advanced, Goes as GoesOn, goes}
use Rattle.lr.proofs.Automaton.{closure_items}
use Rattle.lr.proofs.Paths.{moved_item, items_behind, items_first}
use Rattle.lr.proofs.Unique.{first_of_is}
use Rattle.closures.specs.Sets.{Goes, Start, Alike}
use Rattle.areas.specs.Areas.{row_of}
use Rattle.states.specs.States.{transition, Cell, vacant, leads, Apart, Crowd, Table}

module _ (c : List ℕ) (f : WellFormed c) where
  -- a set that is entered is not the first: the added production's first item is in no set that a transition enters
  not_first : (s u z : List ℕ) (x : ℕ) → 0 < x → Start c z → Goes c s x u → u ≡ z → ⊥
  not_first s u z x p st g e =
      let i : In c z (productions c) 0 = (start_items c f z st (productions c) 0).1 (given core_start) in
      no_first ((goes_items c f s x u p g (productions c) 0).0 (rw e i)) refl refl
    where
      no_first : {r d : ℕ} → CoreClosure (grammar_of c) (CoreAdvanced (grammar_of c) (In c s) x) r d → r ≡ productions c → d ≡ 0 → ⊥
      no_first (given (advanced i e)) er ed = omega arith
      no_first (opened y e h) er ed = omega arith

  -- a transition to p, as the cell has it
  entered : {z : List ℕ} {n : ℕ} {s : List ℕ} {x v : ℕ} → Cell c z n s x v → (v ≡ 0 → ⊥) → (v < n) × Goes c s x (slot z v)
  entered (vacant h) n = absurd (n refl)
  entered (leads p l g) n = (l, g)

  not_alike : (z : List ℕ) (n p q : ℕ) → Apart z n → p < n → q < n → Alike (slot z p) (slot z q) → p ≡ q
  not_alike z n p q ap' hp hq e =
      ⊎_elim (λ (l : p < q). absurd (ap' p q l hq e))
      (λ (l : q ≤ p). ⊎_elim (λ (k : q < p). absurd (ap' q p k hp (λ i h. sym (e i h)))) (λ (k : p ≤ q). omega arith) (lt_or_ge q p)) (lt_or_ge p q)

  module _ (pr : AllProductive (grammar_of c)) where
    -- ---- as many as there are

    module _ (z₀ t₀ z : List ℕ) (n : ℕ) (t : List ℕ) (T : Table c z₀ t₀ z n t n) where
      record Holds (q r d : ℕ) : Type 0 where
        below : q < n
        item : In c (slot z q) r d

      -- what the cell of state q and any symbol x says
      data Entry (q x v : ℕ) : Type 0 where
        none : v ≡ 0 → (GoesOn (grammar_of c) (In c (slot z q)) x → ⊥) → Entry q x v
        one : 0 < x → v < n → (v ≡ 0 → ⊥) → Goes c (slot z q) x (slot z v) → Entry q x v

      entry : (q x : ℕ) → q < n → Entry q x (transition c t q x)
      entry q x h = go (dec_lt 0 x) (dec_lt x (terminals c + nonterminals c))
        where
          of_cell : 0 < x → {v : ℕ} → Cell c z n (slot z q) x v → Entry q x v
          of_cell p (vacant s) = Entry.none refl (stays_put c f (slot z q) x s)
          of_cell p (leads v l g) = Entry.one p l (λ e. not_first (slot z q) (slot z v) (slot z 0) x p T.start g (ap (slot z) e)) g

          go : Dec (0 < x) → Dec (x < terminals c + nonterminals c) → Entry q x (transition c t q x)
          go (yes p) (yes l) = of_cell p (T.cells q x h p l)
          go (yes p) (no l) = Entry.none (transition_none c t q x (omega arith)) (λ g. let s = goes_symbol c f (slot z q) x g in let s1 : x < terminals c + nonterminals c = s.1 in omega arith)
          go (no p) d = let e : x ≡ 0 = omega arith in Entry.none (rw e (T.edge q h)) (λ g. let s = goes_symbol c f (slot z q) x g in let s0 : 0 < x = s.0 in omega arith)

      below_of : (q x : ℕ) {v : ℕ} → Entry q x v → v < n
      below_of q x (Entry.none e s) = rw e T.some
      below_of q x (Entry.one p l m g) = l

      held : {q x : ℕ} → q < n → GoesOn (grammar_of c) (In c (slot z q)) x → GoesOn (grammar_of c) (Holds q) x
      held h (goes i e) = goes (record { below = h; item = i }) e

      free : {q x : ℕ} → GoesOn (grammar_of c) (Holds q) x → GoesOn (grammar_of c) (In c (slot z q)) x
      free (goes i e) = goes i.item e

      some_of : (q x : ℕ) {v : ℕ} → q < n → Entry q x v → (v ≢ 0) ↔ GoesOn (grammar_of c) (Holds q) x
      some_of q x h (Entry.none e s) = (λ ne. absurd (ne e), λ g. absurd (s (free g)))
      some_of q x {v} h (Entry.one p l m g) = (λ ne. held h (goes_on c f (slot z q) x (slot z v) p g), λ k. m)

      has_behind : (q x : ℕ) {v : ℕ} → q < n → Entry q x v → v ≢ 0 → (r d : ℕ) → Holds v r d ↔ CoreClosure (grammar_of c) (CoreAdvanced (grammar_of c) (Holds q) x) r d
      has_behind q x h (Entry.none e s) ne r d = absurd (ne e)
      has_behind q x {v} h (Entry.one p l m g) ne r d =
          let y = goes_items c f (slot z q) x (slot z v) p g r d in
          (λ i. closure_map c f up (y.0 i.item), λ i. record { below = l; item = y.1 (closure_map c f down i) })
        where
          up : (r d : ℕ) → CoreAdvanced (grammar_of c) (In c (slot z q)) x r d → CoreAdvanced (grammar_of c) (Holds q) x r d
          up r d (advanced i e) = advanced (record { below = h; item = i }) e

          down : (r d : ℕ) → CoreAdvanced (grammar_of c) (Holds q) x r d → CoreAdvanced (grammar_of c) (In c (slot z q)) x r d
          down r d (advanced i e) = advanced i.item e

      -- every state is the first or is entered
      data Shape (q : ℕ) : Type 0 where
        first : Start c (slot z q) → Shape q
        later : (s : List ℕ) (x : ℕ) → 0 < x → Goes c s x (slot z q) → Shape q

      shape : (q : ℕ) → q < n → Shape q
      shape q h = go (ℕ_discrete q 0)
        where
          of : {x v : ℕ} (p : ℕ) → v ≡ q → (v ≡ 0 → ⊥) → Entry p x v → Shape q
          of {x} {v} p e m (Entry.none y s) = absurd (m y)
          of {x} {v} p e m (Entry.one y l k g) = later (slot z p) x y (rw e at g)

          go : Dec (q ≡ 0) → Shape q
          go (yes e) = first (rw e T.start)
          go (no ne) =
              let a = first_of_is (grammar_of c) (transition c t) T.order q (omega arith) h in
              of a.from a.is (λ y. ne (sym a.is ∙ y)) (entry a.from a.on (let b : a.from < q = a.lower in omega arith))

      shape_valid : {q : ℕ} → Shape q → AllValid c f (slot z q)
      shape_valid {q} (first st) = start_all c f (slot z q) st
      shape_valid {q} (later s x p g) = goes_valid c f s x (slot z q) p g

      shape_closed : {q : ℕ} → Shape q → {r d s : ℕ} {β : List ℕ} → In c (slot z q) r d → drop d (right_of c r) ≡ left_of c s ∷ β → s < productions c → In c (slot z q) s 0
      shape_closed {q} (first st) i e h = closed_opened c f st.core (slot z q) st.closed i e h
      shape_closed {q} (later s x p g) i e h = closed_opened c f g.core (slot z q) g.closed i e h

      automaton : Automaton (grammar_of c) n Holds (transition c t)
      automaton =
          record {
            some_state = T.some;
            start = λ r d. (let y = start_items c f (slot z 0) T.start r d in (λ i. y.0 i.item, λ i. record { below = T.some; item = y.1 i }));
            closed = λ {q} i e h. record { below = i.below; item = shape_closed (shape q i.below) i.item e h };
            next_below = λ {q} {x} h. below_of q x (entry q x h);
            next_some = λ {q} {x} h. some_of q x h (entry q x h);
            next_has = λ {q} {x} h ne r d. has_behind q x h (entry q x h) ne r d;
            distinct = λ {q} {q'} h h' e. (not_alike z n q q' T.apart h h'
                (alike c f (slot z q) (slot z q') (shape_valid (shape q h)) (shape_valid (shape q' h')) (λ r d. (λ i. ((e r d).0 (record { below = h; item = i })).item, λ i. ((e r d).1 (record { below = h'; item = i })).item))));
          }

      pub found_states : States (grammar_of c) n (transition c t)
      found_states = ordered_states (grammar_of c) (formed c f) pr n Holds (transition c t) automaton T.order

    -- ---- more than 256

    -- the set s has the items of a path
    record Good (s : List ℕ) : Type 0 where
      path : List ℕ
      viable : Items.Viable (grammar_of c) path
      items : (r d : ℕ) → In c s r d ↔ Items.Item (grammar_of c) path r d
      valid : AllValid c f s

    good_start : (s : List ℕ) → Start c s → Good s
    good_start s st =
        record {
          path = [];
          viable = start_viable (grammar_of c);
          items = λ r d. (λ i. closure_items (grammar_of c) (formed c f) pr first_one ((start_items c f s st r d).0 i), λ i. (start_items c f s st r d).1 (back i));
          valid = start_all c f s st;
        }
      where
        first_one : (r d : ℕ) → CoreStart (grammar_of c) r d → Items.Item (grammar_of c) [] r d
        first_one r d core_start = in_core Canonical.start

        back : {r d : ℕ} → Items.Item (grammar_of c) [] r d → CoreClosure (grammar_of c) (CoreStart (grammar_of c)) r d
        back (Items.with_lookahead _ i) = items_first (grammar_of c) (formed c f) pr (by_path i) refl

    good_next : (s : List ℕ) (x : ℕ) (u : List ℕ) → 0 < x → Good s → Goes c s x u → Good u
    good_next s x u l p g =
        record {
          path = p.path ++ x ∷ [];
          viable = via (goes_on c f s x u l g);
          items = λ r d. (λ i. closure_items (grammar_of c) (formed c f) pr (moved_item (grammar_of c) (formed c f) pr) (closure_map c f up ((goes_items c f s x u l g r d).0 i)), λ i. (goes_items c f s x u l g r d).1 (closure_map c f down (behind i)));
          valid = goes_valid c f s x u l g;
        }
      where
        up : (r d : ℕ) → CoreAdvanced (grammar_of c) (In c s) x r d → CoreAdvanced (grammar_of c) (Items.Item (grammar_of c) p.path) x r d
        up r d (advanced {d = d'} i e) = advanced ((p.items r d').0 i) e

        down : (r d : ℕ) → CoreAdvanced (grammar_of c) (Items.Item (grammar_of c) p.path) x r d → CoreAdvanced (grammar_of c) (In c s) x r d
        down r d (advanced {d = d'} i e) = advanced ((p.items r d').1 i) e

        behind : {r d : ℕ} → Items.Item (grammar_of c) (p.path ++ x ∷ []) r d → CoreClosure (grammar_of c) (CoreAdvanced (grammar_of c) (Items.Item (grammar_of c) p.path) x) r d
        behind (Items.with_lookahead _ i) = items_behind (grammar_of c) (formed c f) pr (by_path i) refl

        via₂ : {r d : ℕ} {β : List ℕ} → Items.Item (grammar_of c) p.path r d → drop d (right_of c r) ≡ x ∷ β → Items.Viable (grammar_of c) (p.path ++ x ∷ [])
        via₂ (Items.with_lookahead _ i) e = Items.by_item (in_core (Canonical.goto (by_path i) e))

        via : GoesOn (grammar_of c) (In c s) x → Items.Viable (grammar_of c) (p.path ++ x ∷ [])
        via (goes {r} {d} i e) = via₂ ((p.items r d).0 i) e

    same_core_alike : (s u : List ℕ) (a : Good s) (b : Good u) → Items.SameCore (grammar_of c) a.path b.path → Alike s u
    same_core_alike s u a b e =
        alike c f s u a.valid b.valid (λ r d. (λ i. (b.items r d).1 (e.to r d ((a.items r d).0 i)), λ i. (a.items r d).1 (e.from r d ((b.items r d).0 i))))

    module _ (z₀ t₀ z₁ : List ℕ) (n : ℕ) (t₁ : List ℕ) (q : ℕ) (z t : List ℕ) (T : Table c z₀ t₀ z₁ n t₁ q) (h : q < n) (X : Crowd c (slot z₁ q) z₁ n (set t₁ (row_of c q) 0) (row_of c q) z t) where
      -- the transitions that are written, 0 for the others
      part : ℕ → ℕ → ℕ
      part p y = cond (ltb p q) (transition c t₁ p y) (cond (eqb p q && ltb y X.symbol) (get_or t (row_of c q + y) 0) 0)

      part_low : (p y : ℕ) → p < q → part p y ≡ transition c t₁ p y
      unfolding part
      part_low p y l = rw (lt-ltb p q l)

      part_here : (y : ℕ) → y < X.symbol → part q y ≡ get_or t (row_of c q + y) 0
      unfolding part
      part_here y l = rw (le-ltb q q (le_refl q), eq-eqb q q refl, lt-ltb y X.symbol l)

      part_none : (y : ℕ) → X.symbol ≤ y → part q y ≡ 0
      unfolding part
      part_none y l = rw (le-ltb q q (le_refl q), eq-eqb q q refl, le-ltb y X.symbol l)

      part_high : (p y : ℕ) → q < p → part p y ≡ 0
      unfolding part
      part_high p y l = rw (le-ltb p q (omega arith), ne_eqb p q (λ e. omega arith))

      filled_up : (w : ℕ) → X.symbol ≤ w → Given n (each w (λ y. part q y ∷ [])) 256
      filled_up zero l = let e : X.symbol ≡ 0 = omega arith in absurd (let a = X.above in let y : ⊥ = omega arith in y)
      filled_up (suc w) l = go (dec_lt w X.symbol) (λ k. filled_up w k)
        where
          go : Dec (w < X.symbol) → (X.symbol ≤ w → Given n (each w (λ y. part q y ∷ [])) 256) → Given n (each (suc w) (λ y. part q y ∷ [])) 256
          go (yes k) ih =
              let e : X.symbol ≡ suc w = omega arith in
              rw (each_same (suc w) (λ y. part q y ∷ []) (λ y. get_or t (row_of c q + y) 0 ∷ []) (λ y b. ap (λ (v : ℕ). v ∷ []) (part_here y (omega arith)))) (rw e at X.row.given)
          go (no k) ih = let b : part q w < 256 = rw (part_none w (omega arith)) (omega arith) in given_known (ih (omega arith)) b

      order : Taken (cells_of (grammar_of c) part) (suc q) 256
      order =
          Taken.one
          (taken_same (λ p l. each_same (terminals c + nonterminals c) (λ y. transition c t₁ p y ∷ []) (λ y. part p y ∷ []) (λ y k. ap (λ (v : ℕ). v ∷ []) (sym (part_low p y l)))) T.order) h
          (filled_up (terminals c + nonterminals c) (let b = X.below in omega arith))

      -- a state before the last is entered from a lower one
      enters : (p : ℕ) → 0 < p → p < 256 → (a : ℕ) × (a < p) × (x : ℕ) × (0 < x) × Goes c (slot z a) x (slot z p)
      enters p l k =
          let a = first_of_is (grammar_of c) part order p l k in
          go a.from a.on a.lower a.symbol a.is (dec_lt a.from q) (dec_lt a.on X.symbol) (dec_lt 0 a.on)
        where
          go : (b x : ℕ) → b < p → x < terminals c + nonterminals c → part b x ≡ p → Dec (b < q) → Dec (x < X.symbol) → Dec (0 < x) → (a : ℕ) × (a < p) × (x : ℕ) × (0 < x) × Goes c (slot z a) x (slot z p)
          go b x hb hx e (yes d) k (yes y) =
              let v : transition c t₁ b x ≡ p = sym (part_low b x d) ∙ e in
              let g = entered (T.cells b x d y hx) (λ w. let u : p ≡ 0 = sym v ∙ w in omega arith) in
              let g0 : transition c t₁ b x < n = g.0 in
              (b, hb, x, y, rw (X.row.old b (omega arith), X.row.old p (omega arith)) (rw v at g.1))
          go b x hb hx e (yes d) k (no y) = absurd (let w : x ≡ 0 = omega arith in let u : p ≡ 0 = sym e ∙ part_low b x d ∙ rw w (T.edge b d) in let m : ⊥ = omega arith in m)
          go b x hb hx e (no d) k y = here (ℕ_discrete b q) k y
            where
              here : Dec (b ≡ q) → Dec (x < X.symbol) → Dec (0 < x) → (a : ℕ) × (a < p) × (x : ℕ) × (0 < x) × Goes c (slot z a) x (slot z p)
              here (yes w) (yes k) (yes y) =
                  let v : get_or t (row_of c q + x) 0 ≡ p = sym (part_here x k) ∙ rw w at e in
                  let g = entered (X.row.cells x y k) (λ u. let m : p ≡ 0 = sym v ∙ u in omega arith) in
                  (b, hb, x, y, rw (w, X.row.old q h) (rw v at g.1))
              here (yes w) (yes k) (no y) =
                  absurd (let u : x ≡ 0 = omega arith in let m : p ≡ 0 = sym (rw w at e) ∙ part_here x k ∙ rw u X.row.edge in let r : ⊥ = omega arith in r)
              here (yes w) (no k) y = absurd (let m : p ≡ 0 = sym (rw w at e) ∙ part_none x (omega arith) in let r : ⊥ = omega arith in r)
              here (no w) k y = absurd (let m : p ≡ 0 = sym e ∙ part_high b x (omega arith) in let r : ⊥ = omega arith in r)

      good : (m p : ℕ) → p < m → p < 256 → Good (slot z p)
      good zero p l k = absurd (omega arith)
      good (suc m) p l k = go (ℕ_discrete p 0) (λ a b. good m a (omega arith) (omega arith))
        where
          go : Dec (p ≡ 0) → ((a : ℕ) → a < p → Good (slot z a)) → Good (slot z p)
          go (yes e) ih = rw e (good_start (slot z 0) (rw (X.row.old 0 (omega arith)) T.start))
          go (no ne) ih = let e = enters p (omega arith) k in good_next (slot z e.0) e.2 (slot z p) e.3 (ih e.0 e.1) e.4

      last : Good X.new
      last = good_next (slot z q) X.symbol X.new X.above (good (suc q) q (omega arith) (let m = T.most in omega arith)) (rw (X.row.old q h) X.goes)

      goods : (i : ℕ) → i < 256 → Good (slot z i)
      goods i l = good (suc i) i (omega arith) l

      chosen : (i : ℕ) → Dec (i < 256) → List ℕ
      chosen i (yes l) = (goods i l).path
      chosen i (no l) = last.path

      pub more_states : MoreStates (grammar_of c) 256
      unfolding chosen
      more_states =
          record {
            path = λ i. chosen i (dec_lt i 256);
            viable = λ i l. viable_at i (dec_lt i 256);
            apart = λ i j hi hj e. apart i j hi hj (dec_lt i 256) (dec_lt j 256) e;
          }
        where
          viable_at : (i : ℕ) (d : Dec (i < 256)) → Items.Viable (grammar_of c) (chosen i d)
          viable_at i (yes l) = (goods i l).viable
          viable_at i (no l) = last.viable

          apart : (i j : ℕ) → i ≤ 256 → j ≤ 256 → (d : Dec (i < 256)) (d' : Dec (j < 256)) → Items.SameCore (grammar_of c) (chosen i d) (chosen j d') → i ≡ j
          apart i j hi hj (yes a) (yes b) e = not_alike z 256 i j X.row.apart a b (same_core_alike (slot z i) (slot z j) (goods i a) (goods j b) e)
          apart i j hi hj (yes a) (no b) e = absurd (X.none i a (same_core_alike (slot z i) X.new (goods i a) last e))
          apart i j hi hj (no a) (yes b) e = absurd (X.none j b (λ k l. sym (same_core_alike X.new (slot z j) last (goods j b) e k l)))
          apart i j hi hj (no a) (no b) e = omega arith
