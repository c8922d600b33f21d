-- The actions of a cell, and the search for the first cell where two meet.
use mathlib.Core.Path.{◌≡◌, refl, sym, ap, ◌∙◌}
use mathlib.Core.Bool.{Bool, true, false}
use mathlib.Core.Logic.{◌≢◌, ◌⊎◌, inl, inr}
use mathlib.Core.List.Memᴰ
use mathlib.Core.List.{List, [], ◌∷◌, ◌++◌, Memᴰ}
use Prim.Native.Nat.{ℕ, zero, suc, ◌+◌, ◌≤◌, ◌<◌}
use native.Mathlib.Omega.{arith}
use native.Mathlib.Decide.{ℕ_discrete}
use lib.ListN.{length}
use Rattle.grammar.specs.Grammar.{Grammar, Formed}
use Rattle.lr.proofs.ItemLaws.{AllProductive}
use Rattle.lr.proofs.Automaton.{Automaton, Lookahead, sits_lookahead, lookahead_sits}
use Rattle.sets.specs.Lists.{each}
use Rattle.tables.specs.Layout.{reduction, accept}
use Rattle.tables.specs.Conflicts.{Single, Conflict, Before, lower_state, lower_symbol}
use Rattle.lr.specs.Cells.{Action, shifts, reduces, accepts}
use Rattle.sets.specs.Bit.{bit}
use Rattle.lalr.specs.ComputedSets.{when}
use Rattle.lalr.specs.ComputedStates
use Rattle.lalr.specs.ComputedStates.{first, fact, facts, is_move, actions, cell}
use Rattle.lalr.specs.Answer.{Answer, made, conflict}
use Rattle.lalr.specs.ComputedAnswer.{or_else, meeting, conflict_in, conflict_from, conflict_of}
use Rattle.lalr.proofs.Lists.{not-true, each_in, each_from, From, from, when_in, when_from}
use Rattle.lalr.proofs.ItemLaws.{Valid}
use Rattle.lalr.proofs.FactLaws.{facts_only, facts_all}

-- ---- ascending lists: from n on, below m
pub data Between : ℕ → ℕ → List ℕ → Type 0 where
  none : {n m : ℕ} → n ≤ m → Between n m []
  some : {n m k : ℕ} {ks : List ℕ} → n ≤ k → Between (suc k) m ks → Between n m (k ∷ ks)

between_le : {n m : ℕ} {l : List ℕ} → Between n m l → n ≤ m
between_le (none h) = h
between_le (some h b) = omega (arith, between_le b)

between_low : {n n' m : ℕ} {l : List ℕ} → n' ≤ n → Between n m l → Between n' m l
between_low {n' = n'} {m = m} h (none k) = none {n = n'} {m = m} (omega arith)
between_low {n' = n'} h (some {k = j} k b) = some {n = n'} {k = j} (omega arith) b

between_append : {n m p : ℕ} {l l' : List ℕ} → Between n m l → Between m p l' → Between n p (l ++ l')
between_append (none h) b = between_low h b
between_append (some h a) b = some h (between_append a b)

between_when : (n m k : ℕ) (b : Bool) → n ≤ m → (b ≡ true → (n ≤ k) × (k < m)) → Between n m (when b (k ∷ []))
between_when n m k true h r = let t = r refl in some t.0 (none t.1)
between_when n m k false h r = none h

between_mem : {n m k : ℕ} {l : List ℕ} → Between n m l → Memᴰ k l → n ≤ k
between_mem (none h) t = absurd (Memᴰ.not-nil t)
between_mem {k = k} (some {k = j} h b) t = go h (Memᴰ.cases_cons t) (λ u. between_mem b u)
  where
    go : {n : ℕ} {ks : List ℕ} → n ≤ j → (k ≡ j) ⊎ Memᴰ k ks → (Memᴰ k ks → suc j ≤ k) → n ≤ k
    go h (inl e) ih = omega arith
    go h (inr u) ih = omega (arith, ih u)

-- ---- what a list of actions is
pub data Short : List ℕ → Type 0 where
  empty : Short []
  one : {v : ℕ} → Short (v ∷ [])

pub short_only : {l : List ℕ} {v w : ℕ} → Short l → Memᴰ v l → Memᴰ w l → v ≡ w
short_only empty a b = absurd (Memᴰ.not-nil a)
short_only one a b = Memᴰ.eq_of_singleton a ∙ sym (Memᴰ.eq_of_singleton b)

-- ---- the search, for any lists
module _ (met : ℕ → ℕ → List ℕ) where
  pub data InRow (q a n : ℕ) : Answer → Type 0 where
    clear : ((m : ℕ) → a ≤ m → m < a + n → Short (met q m)) → InRow q a n made
    hit : {m v w : ℕ} {ws : List ℕ} → a ≤ m → m < a + n → met q m ≡ v ∷ w ∷ ws → ((k : ℕ) → a ≤ k → k < m → Short (met q k)) → InRow q a n (conflict q m v w)

  in_row : (q n a : ℕ) → InRow q a n (conflict_in met q n a)
  in_row q zero a = clear (λ m h k. absurd (omega arith))
  in_row q (suc n) a = go (met q a) refl (in_row q n (suc a))
    where
      later : {x : Answer} → Short (met q a) → InRow q (suc a) n x → InRow q a (suc n) x
      later s (clear c) = clear (λ m h k. at m h k (ℕ_discrete m a))
        where
          at : (m : ℕ) → a ≤ m → m < a + suc n → Dec (m ≡ a) → Short (met q m)
          at m h k (yes e) = rw e s
          at m h k (no ne) = c m (omega arith) (omega arith)
      later s (hit {m} h k e c) = hit {m = m} (omega arith) (omega arith) e (λ j i l. at j i l (ℕ_discrete j a))
        where
          at : (j : ℕ) → a ≤ j → j < m → Dec (j ≡ a) → Short (met q j)
          at j i l (yes e) = rw e s
          at j i l (no ne) = c j (omega arith) l

      go : (l : List ℕ) → met q a ≡ l → InRow q (suc a) n (conflict_in met q n (suc a)) → InRow q a (suc n) (or_else (meeting q a (met q a)) (conflict_in met q n (suc a)))
      go [] e r = rw e (later (rw e empty) r)
      go (v ∷ []) e r = rw e (later (rw e one) r)
      go (v ∷ w ∷ ws) e r = rw e (hit {m = a} (omega arith) (omega arith) e (λ k i l. absurd (omega arith)))

  pub data Search (tm q n : ℕ) : Answer → Type 0 where
    none_met : ((p m : ℕ) → q ≤ p → p < q + n → m < tm → Short (met p m)) → Search tm q n made
    met_at : {p m v w : ℕ} {ws : List ℕ} → q ≤ p → p < q + n → m < tm → met p m ≡ v ∷ w ∷ ws
        → ((p' m' : ℕ) → q ≤ p' → p' < p → m' < tm → Short (met p' m')) → ((m' : ℕ) → m' < m → Short (met p m')) → Search tm q n (conflict p m v w)

  pub search : (tm n q : ℕ) → Search tm q n (conflict_from met tm n q)
  search tm zero q = none_met (λ p m h k l. absurd (omega arith))
  search tm (suc n) q = go (in_row q tm 0) (search tm n (suc q))
    where
      at : (c : (m : ℕ) → 0 ≤ m → m < 0 + tm → Short (met q m)) (p m : ℕ) → m < tm → Dec (p ≡ q) → (suc q ≤ p → Short (met p m)) → q ≤ p → Short (met p m)
      at c p m k (yes e) r h = rw e (c m (omega arith) (omega arith))
      at c p m k (no ne) r h = r (omega arith)

      later : {y : Answer} → ((m : ℕ) → 0 ≤ m → m < 0 + tm → Short (met q m)) → Search tm (suc q) n y → Search tm q (suc n) y
      later c (none_met d) = none_met (λ p m h k l. at c p m l (ℕ_discrete p q) (λ i. d p m i (omega arith) l) h)
      later c (met_at {p} {m} h k l e d b) = met_at {p = p} {m = m} (omega arith) (omega arith) l e (λ p' m' i j k. at c p' m' k (ℕ_discrete p' q) (λ i. d p' m' i j k) i) b

      go : {x y : Answer} → InRow q 0 tm x → Search tm (suc q) n y → Search tm q (suc n) (or_else x y)
      go (clear c) r = later c r
      go (hit {m} h k e c) r = met_at {p = q} {m = m} (omega arith) (omega arith) (omega arith) e (λ p' m' i j k. absurd (omega arith)) (λ m' l. c m' (omega arith) l)

-- ---- the actions of a cell
module _ (g : Grammar) (f : Formed g) (pr : AllProductive g) (rows : List (List ℕ)) (holds : ℕ → ℕ → ℕ → Type 0) (au : Automaton g (length rows) holds (ComputedStates.goes g rows)) where
  abbrev next : ℕ → ℕ → ℕ
  next q x = ComputedStates.goes g rows q x

  abbrev acts : ℕ → ℕ → List ℕ
  acts q a = actions g rows (facts g rows) q a

  abbrev shifting : ℕ → ℕ → List ℕ
  shifting q a = when (is_move g (next q a)) (next q a ∷ [])

  abbrev reducing : ℕ → ℕ → ℕ → List ℕ
  reducing q a r = when (bit (facts g rows) (fact g q (first g r + length (g.right r)) a)) (reduction r ∷ [])

  abbrev accepting : ℕ → ℕ → List ℕ
  accepting q a = when (bit (facts g rows) (fact g q (first g g.productions + 1) a)) (accept ∷ [])

  full_valid : (r : ℕ) → r ≤ g.productions → Valid g r (length (g.right r))
  full_valid r h = record { production = h; dot = omega arith }

  added_length : length (g.right g.productions) ≡ 1
  added_length = ap length f.added

  added_fact : (q a : ℕ) → fact g q (first g g.productions + length (g.right g.productions)) a ≡ fact g q (first g g.productions + 1) a
  added_fact q a = ap (λ (n : ℕ). fact g q (first g g.productions + n) a) added_length

  transitions_on : (n : ℕ) → is_move g n ≡ true → n ≢ 0
  transitions_on zero e z = not-true e refl
  transitions_on (suc n) e z = omega arith

  on_move : (n : ℕ) → n ≢ 0 → is_move g n ≡ true
  on_move zero h = absurd (h refl)
  on_move (suc n) h = refl

  pub actions_only : (q a v : ℕ) → a < g.terminals → Memᴰ v (acts q a) → Action g next q a v
  actions_only q a v ha m = go (Memᴰ.append_cases (shifting q a) m)
    where
      by_production : From v g.productions (reducing q a) → Action g next q a v
      by_production (from r h k) =
          let t = when_from (bit (facts g rows) (fact g q (first g r + length (g.right r)) a)) k in
          rw (Memᴰ.eq_of_singleton t.1) (reduces r h (sits_lookahead g (facts_only g f pr rows holds au q r (length (g.right r)) a (full_valid r (omega arith)) ha t.0)))

      last : Memᴰ v (accepting q a) → Action g next q a v
      last k =
          let t = when_from (bit (facts g rows) (fact g q (first g g.productions + 1) a)) k in
          rw (Memᴰ.eq_of_singleton t.1) (accepts (sits_lookahead g (facts_only g f pr rows holds au q g.productions (length (g.right g.productions)) a (full_valid g.productions (omega arith)) ha (ap (bit (facts g rows)) (added_fact q a) ∙ t.0))))

      rest : Memᴰ v (each g.productions (reducing q a)) ⊎ Memᴰ v (accepting q a) → Action g next q a v
      rest (inl k) = by_production (each_from g.productions (reducing q a) k)
      rest (inr k) = last k

      go : Memᴰ v (shifting q a) ⊎ Memᴰ v (each g.productions (reducing q a) ++ accepting q a) → Action g next q a v
      go (inl k) = let t = when_from (is_move g (next q a)) k in rw (Memᴰ.eq_of_singleton t.1) (shifts ha (transitions_on (next q a) t.0))
      go (inr k) = rest (Memᴰ.append_cases (each g.productions (reducing q a)) k)

  there_of : {q r a : ℕ} → Lookahead g next q r a → bit (facts g rows) (fact g q (first g r + length (g.right r)) a) ≡ true
  there_of h = let s = lookahead_sits g f pr (length rows) holds next au h in rw s.leads at (facts_all g f pr rows holds au s.item).there

  pub actions_all : (q a v : ℕ) → Action g next q a v → Memᴰ v (acts q a)
  actions_all q a v (shifts ha nz) = let m : Memᴰ (next q a) (shifting q a) = when_in (on_move (next q a) nz) (Memᴰ.head refl) in Memᴰ.append_left (each g.productions (reducing q a) ++ accepting q a) m
  actions_all q a v (reduces r h k) = Memᴰ.append_right (shifting q a) (Memᴰ.append_left (accepting q a) (each_in g.productions (reducing q a) r h (when_in (there_of k) (Memᴰ.head refl))))
  actions_all q a v (accepts k) = Memᴰ.append_right (shifting q a) (Memᴰ.append_right (each g.productions (reducing q a)) (when_in (ap (bit (facts g rows)) (sym (added_fact q a)) ∙ there_of k) (Memᴰ.head refl)))

  module _ (some-few : length rows ≤ 256) (productions_few : g.productions ≤ 128) where
    reducing_between : (q a n : ℕ) → Between 1024 (1024 + n) (each n (reducing q a))
    reducing_between q a zero = none {n = 1024} {m = 1024 + 0} (omega arith)
    reducing_between q a (suc n) = between_append (reducing_between q a n) (between_when (1024 + n) (1024 + suc n) (1024 + n) (bit (facts g rows) (fact g q (first g n + length (g.right n)) a)) (omega arith) (λ e. (omega arith, omega arith)))

    pub ascending : (q a : ℕ) → q < length rows → Between 1 4097 (acts q a)
    ascending q a h =
        between_append (between_when 1 1024 (next q a) (is_move g (next q a)) (omega arith) shifted)
        (between_append (reducing_between q a g.productions) (between_when (1024 + g.productions) 4097 4096 (bit (facts g rows) (fact g q (first g g.productions + 1) a)) (omega arith) (λ e. (omega arith, omega arith))))
      where
        shifted : is_move g (next q a) ≡ true → (1 ≤ next q a) × (next q a < 1024)
        shifted e = let nz : next q a ≢ 0 = transitions_on (next q a) e in let b : next q a < length rows = au.next_below h in (positive (next q a) nz, omega arith)
          where
            positive : (n : ℕ) → n ≢ 0 → 1 ≤ n
            positive zero h = absurd (h refl)
            positive (suc n) h = omega arith

    -- one action: the cell is it; none: the cell is 0
    pub single_of : (q a : ℕ) → a < g.terminals → Short (acts q a) → Single (Action g next q a)
    single_of q a h s = record { only = λ v w x y. short_only s (actions_all q a v x) (actions_all q a w y) }

    pub conflict_search : Search acts g.terminals 0 (length rows) (conflict_of g rows)
    conflict_search = search acts g.terminals (length rows) 0

    two_lowest : {v w : ℕ} {ws : List ℕ} → Between 1 4097 (v ∷ w ∷ ws) → (v < w) × ((u : ℕ) → Memᴰ u (v ∷ w ∷ ws) → u ≢ v → w ≤ u)
    two_lowest {v = v} {w = w} {ws = ws} (some h (some k b)) = (omega arith, λ u m ne. go u ne (Memᴰ.cases_cons m))
      where
        next_one : {ws : List ℕ} (u : ℕ) → Between (suc w) 4097 ws → (u ≡ w) ⊎ Memᴰ u ws → w ≤ u
        next_one u b (inl e) = omega arith
        next_one u b (inr m) = let t : suc w ≤ u = between_mem b m in omega arith

        go : (u : ℕ) → u ≢ v → (u ≡ v) ⊎ Memᴰ u (w ∷ ws) → w ≤ u
        go u ne (inl e) = absurd (ne e)
        go u ne (inr m) = next_one u b (Memᴰ.cases_cons m)

    -- the search's answer, in the words of the definition
    pub no_conflict : Search acts g.terminals 0 (length rows) made → (q m : ℕ) → q < length rows → m < g.terminals → Short (acts q m)
    no_conflict s q m hq hm = go s refl
      where
        go : {x : Answer} → Search acts g.terminals 0 (length rows) x → x ≡ made → Short (acts q m)
        go (none_met c) e = c q m (omega arith) (omega arith) hm
        go (met_at h k l e b d) z = absurd (let y : ◌≡◌ {A = ℕ} 0 1 = cc in omega arith)

    pub conflict_found : {q m v w : ℕ} {ws : List ℕ} → q < length rows → m < g.terminals → acts q m ≡ v ∷ w ∷ ws → ((q' m' : ℕ) → 0 ≤ q' → q' < q → m' < g.terminals → Short (acts q' m')) → ((m' : ℕ) → m' < m → Short (acts q m'))
        → Conflict (Action g next) (length rows) g.terminals q m v w
    conflict_found {q} {m} {v} {w} {ws} hq hm e c d =
        let t = two_lowest (rw e at (ascending q m hq)) in
        record {
          state = hq;
          terminal = hm;
          numbers = record {
            first = actions_only q m v hm (rw e (Memᴰ.head refl));
            second = actions_only q m w hm (rw e (Memᴰ.tail (Memᴰ.head refl)));
            lower = t.0;
            lowest = λ u a ne. t.1 u (rw e at (actions_all q m u a)) ne;
          };
          before = λ q' m' h k b. single_of q' m' k (at q' m' k b);
        }
      where
        at : (q' m' : ℕ) → m' < g.terminals → Before q' m' q m → Short (acts q' m')
        at q' m' k (lower_state l) = c q' m' (omega arith) l k
        at q' m' k (lower_symbol e l) = rw e (d m' l)

    -- the cell
    cell_mem : (l : List ℕ) → cell l ≢ 0 → Memᴰ (cell l) l
    cell_mem [] ne = absurd (ne refl)
    cell_mem (v ∷ vs) ne = Memᴰ.head refl

    mem_cell : {l : List ℕ} {v : ℕ} → Short l → Memᴰ v l → cell l ≡ v
    mem_cell empty m = absurd (Memᴰ.not-nil m)
    mem_cell one m = sym (Memᴰ.eq_of_singleton m)

    pub cell_action : (q m : ℕ) → m < g.terminals → cell (acts q m) ≢ 0 → Action g next q m (cell (acts q m))
    cell_action q m h ne = actions_only q m (cell (acts q m)) h (cell_mem (acts q m) ne)

    pub action_cell : (q m v : ℕ) → Short (acts q m) → Action g next q m v → cell (acts q m) ≡ v
    action_cell q m v s a = mem_cell s (actions_all q m v a)
