-- Rows of cells: what the words of a state say of its numbers, and the rows written so far.
use Prim.Native.Nat.{ℕ, ◌+◌, ◌-◌, ◌≤◌, ◌<◌}
use mathlib.Core.Path.{◌≡◌, refl, sym, ap, ◌∙◌, subst}
use mathlib.Core.Bool.{true}
use mathlib.Core.Logic.{◌↔◌, ◌≢◌, ⊎_elim}
use mathlib.Core.List.{List, []}
use native.Mathlib.Omega.{arith}
use native.Mathlib.Decide.{ℕ_discrete}
use lib.ListN.{length, get_or, set}
use lib.Seq.{get_or-set_same, get_or-set_other}
use borrow.Author.Tests.{lt-ltb}
use Rattle.sets.specs.Bit.{bit}
use Rattle.sets.proofs.HasLaws.{lt_or_ge, below_suc}
use Rattle.grammar.specs.Card.{terminals, nonterminals, productions}
use Rattle.grammar.proofs.CardLaws.{well_formed}
use Rattle.areas.specs.Areas.{table_size, row_of}
use Rattle.areas.proofs.RowLaws.{row_next, row_mono, row_most, row_small, rows_fit}
use Rattle.transitions.specs.Places.{shifts_at}
use Rattle.transitions.specs.Area.{entering_of}
use Rattle.transitions.specs.Next.{next_of, Numbered}
use Rattle.transitions.specs.Data.{Ordered, Holds, Shifts}
use Rattle.tables.specs.Conflicts.{Single, Lowest, Before, lower_state, lower_symbol}
use Rattle.cells.specs.Actions.{Act, IsCell}
use Rattle.cells.specs.Words.{Numbers, Two, Written, Row}
use Rattle.cells.proofs.WordLaws.{written_cell}
use Rattle.cells.proofs.AreaLaws.{covered_same, tabled}
use Rattle.lookaheads.specs.LooksBack.{LooksBack, Looks}
use Rattle.lookaheads.specs.Joins.{Accepts}
use Rattle.lookaheads.specs.Outcome.{Stage, Stands, Rows, Met, Named, Searched, Closed, Outcome}
use Rattle.lookaheads.specs.declared.Conflict.{Conflict}
use Rattle.std.specs.Prelude.{Some, None, Result, Ok, Err}
use Rattle.lookaheads.proofs.LookLaws.{accepts_zero, accepts_other, accepts_one}

-- ---- places

pub cell_at : (t : List ℕ) {b b' x x' : ℕ} → b ≡ b' → x ≡ x' → get_or t (b + x) 0 ≡ get_or t (b' + x') 0
cell_at t e f = rw (e, f)

-- a place of a lower row
row_below : (c : List ℕ) (p q x : ℕ) → p < q → x < terminals c + nonterminals c → row_of c p + x < row_of c q
row_below c p q x h l = let m = row_mono c p q h in omega arith

module _ (c w : List ℕ) (k : ℕ) (o : Ordered c w k) where
  -- 256 rows fit
  pub row_fits : (q : ℕ) → q ≤ 256 → row_of c q ≤ table_size
  row_fits q h = row_small c (well_formed c o.formed) q h

  -- and the place of any word of a row
  pub row_room : (q : ℕ) → q < 256 → row_of c q + 64 ≤ table_size
  row_room q h = let m = row_most c (well_formed c o.formed) q 255 (omega arith) in omega arith

-- the table area holds the transitions
pub next_cell : (c t : List ℕ) (n q x : ℕ) → q < n → x < terminals c + nonterminals c → get_or t (row_of c q + x) 0 ≡ next_of c t n q x
unfolding next_of
next_cell c t n q x h l = rw (lt-ltb q n h, lt-ltb x (terminals c + nonterminals c) l)

-- one entering symbol more
pub entries_more : (w s : List ℕ) (q i v : ℕ) → i ≡ q → v ≡ entering_of w q → i < length s → ((p : ℕ) → p < q → get_or s p 0 ≡ entering_of w p)
    → (p : ℕ) → p < q + 1 → get_or (set s i v) p 0 ≡ entering_of w p
entries_more w s q i v ei ev room so p h =
    ⊎_elim
    (λ (l : p < q). get_or-set_other s i p v 0 (λ e. omega arith) ∙ so p l)
    (λ (e : p ≡ q). ap (λ (x : ℕ). get_or (set s i v) x 0) (e ∙ sym ei) ∙ get_or-set_same s i v 0 room ∙ ev ∙ ap (entering_of w) (sym e))
    (below_suc h)

-- ---- one predicate for another

module _ {A B : ℕ → Type 0} (to : (v : ℕ) → A v → B v) (from : (v : ℕ) → B v → A v) where
  pub two_same : Two A → Two B
  two_same t = record { lower = t.lower; upper = t.upper; first = to _ t.first; second = to _ t.second; order = t.order }

  pub lowest_same : (v u : ℕ) → Lowest A v u → Lowest B v u
  lowest_same v u l = record { first = to v l.first; second = to u l.second; lower = l.lower; lowest = λ x b n. l.lowest x (from x b) n }

  pub cell_same : (v : ℕ) → IsCell A v → IsCell B v
  cell_same v e = record { some = λ h. to v (e.some h); only = λ u b. e.only u (from u b) }

-- where no two meet there is at most one
pub single : {A : ℕ → Type 0} → (Two A → ⊥) → Single A
single n = record {
  only = λ v w a b.
      ⊎_elim (λ (l : v < w). absurd (n (record { lower = v; upper = w; first = a; second = b; order = l })))
      (λ (l : w ≤ v). ⊎_elim (λ (g : w < v). absurd (n (record { lower = w; upper = v; first = b; second = a; order = g }))) (λ (g : v ≤ w). omega arith) (lt_or_ge w v))
      (lt_or_ge v w);
}

-- a cell's number is the only one
pub cell_single : {A : ℕ → Type 0} (v : ℕ) → IsCell A v → Single A
cell_single v e = record { only = λ u w a b. e.only u a ∙ sym (e.only w b) }

-- ---- the words of a state and its numbers

-- the word of the terminals at which q accepts
pub accept_word : (a q : ℕ) → (s : ℕ) × Holds s (Accepts a q)
accept_word a q = elim (ℕ_discrete q 0) [
  | yes e ↦ (0, accepts_zero a q e)
  | no n ↦ elim (ℕ_discrete a q) [ yes e ↦ (1, accepts_one a q n e) | no d ↦ (0, accepts_other a q d) ]
]

module _ (c w z : List ℕ) (n k : ℕ) (next : ℕ → ℕ → ℕ) (numbered : Numbered c n next) (q m : ℕ) (below : m < terminals c) (found : List ℕ) (accept : ℕ)
    (looks : (r : ℕ) → r < productions c → Holds (get_or found r 0) (LooksBack c w z k q r)) (accepting : Holds accept (Accepts (next 0 (terminals c)) q)) where
  pub numbers_act : (v : ℕ) → Numbers (productions c) (next q m) found accept m v → Act c next (LooksBack c w z k q) q m v
  numbers_act v x = go x
    where
      go : {v : ℕ} → Numbers (productions c) (next q m) found accept m v → Act c next (LooksBack c w z k q) q m v
      go (Numbers.shifts h) = Act.shifts (numbered.low q m h) below h
      go (Numbers.reduces r l h) = Act.reduces r l ((looks r l).only m h)
      go (Numbers.accepts h) = let y = accepting.only m h in Act.accepts y.end_marker y.target y.some

  pub act_numbers : (v : ℕ) → Act c next (LooksBack c w z k q) q m v → Numbers (productions c) (next q m) found accept m v
  act_numbers v x = go x
    where
      go : {v : ℕ} → Act c next (LooksBack c w z k q) q m v → Numbers (productions c) (next q m) found accept m v
      go (Act.shifts a b h) = Numbers.shifts h
      go (Act.reduces r l h) = Numbers.reduces r l ((looks r l).all m h)
      go (Act.accepts a b d) = Numbers.accepts (accepting.all m (record { end_marker = a; target = b; some = d }))

  small : next q m < 1024
  small = omega (arith, numbered.target q m, numbered.most)

  -- the bit of the word of meeting terminals
  module _ (shifts meet : ℕ) (shifting : Holds shifts (Shifts c next q))
      (meeting : (i s : ℕ) → s < 1024 → (bit shifts i ≡ true) ↔ (s ≢ 0) → (bit meet i ≡ true) ↔ Two (Numbers (productions c) s found accept i)) where
    meets : (bit meet m ≡ true) ↔ Two (Numbers (productions c) (next q m) found accept m)
    meets = meeting m (next q m) small (λ h. (shifting.only m h).some, λ h. shifting.all m (record { low = numbered.low q m h; high = below; some = h }))

    pub meet_two : bit meet m ≡ true → Two (Act c next (LooksBack c w z k q) q m)
    meet_two h = two_same numbers_act act_numbers (meets.0 h)

    pub meet_single : (bit meet m ≡ true → ⊥) → Single (Numbers (productions c) (next q m) found accept m)
    meet_single h = single (λ t. h (meets.1 t))

  -- the two lowest
  lowest_act : (v u : ℕ) → ((a : ℕ) → next q m < 1024 → Two (Numbers (productions c) (next q m) found a m) → Lowest (Numbers (productions c) (next q m) found a m) v u)
      → Two (Act c next (LooksBack c w z k q) q m) → Lowest (Act c next (LooksBack c w z k q) q m) v u
  lowest_act v u l t = lowest_same numbers_act act_numbers v u (l accept small (two_same act_numbers numbers_act t))

pub conflict_named : (c w z : List ℕ) (n k : ℕ) (next : ℕ → ℕ → ℕ) (q q' m m' p s : ℕ) (found : List ℕ) (v u : ℕ) → Numbered c n next → m < terminals c → q' ≡ q → m' ≡ m → p ≡ productions c → s ≡ next q m
    → ((r : ℕ) → r < productions c → Holds (get_or found r 0) (LooksBack c w z k q' r))
    → ((a : ℕ) → s < 1024 → Two (Numbers p s found a m') → Lowest (Numbers p s found a m') v u)
    → Two (Act c next (LooksBack c w z k q) q m) → Named (Act c next (LooksBack c w z k q) q m) q m (record { state = q; terminal = m; lower = v; upper = u })
conflict_named c w z n k next q q' m m' p s found v u numbered below eq em ep es looks lowest t =
    let a = accept_word (next 0 (terminals c)) q in
    record {
      state = refl;
      terminal = refl;
      numbers =
          lowest_act c w z n k next numbered q m below found a.0 (subst (λ (x : ℕ). (r : ℕ) → r < productions c → Holds (get_or found r 0) (LooksBack c w z k x r)) eq looks) a.1 v u
          (rw (em, ep, es) at lowest) t;
    }

-- ---- rows

-- no word has a terminal from T on, so what stands there is kept
written_kept : (p s : ℕ) (found : List ℕ) (accept m v : ℕ) → ((r : ℕ) → r < p → bit (get_or found r 0) m ≡ true → ⊥) → (bit accept m ≡ true → ⊥) → Written p s found accept m v → v ≡ s
written_kept p s found accept m v f g x = go x
  where
    go : {v : ℕ} → Written p s found accept m v → v ≡ s
    go (Written.kept a b) = refl
    go (Written.reduced r l h) = absurd (f r l h)
    go (Written.accepted h) = absurd (g h)

-- what is known of the words of state q: its lookaheads, where it accepts, what it shifts, and where two numbers meet
pub record Known (c t₀ w z : List ℕ) (n k q : ℕ) (found : List ℕ) (accept shifts meet : ℕ) : Type 0 where
  pub looks : Looks c w z k q found
  pub accepting : Holds accept (Accepts (next_of c t₀ n 0 (terminals c)) q)
  pub shifting : Holds shifts (Shifts c (next_of c t₀ n) q)
  pub meeting : (i s : ℕ) → s < 1024 → (bit shifts i ≡ true) ↔ (s ≢ 0) → (bit meet i ≡ true) ↔ Two (Numbers (productions c) s found accept i)

-- two numbers meet at (q, m), and at no cell before it
pub record Crossed (A : ℕ → ℕ → ℕ → Type 0) (count terminals q m : ℕ) : Type 0 where
  pub state : q < count
  pub terminal : m < terminals
  pub two : Two (A q m)
  pub before : (q' m' : ℕ) → q' < count → m' < terminals → Before q' m' q m → Single (A q' m')

module _ (c t₀ w z : List ℕ) (n k : ℕ) (stage : Stage c t₀ w z n) (o : Ordered c w k) where
  abbrev next : ℕ → ℕ → ℕ
  next = next_of c t₀ n

  -- the lookaheads are terminals
  looks_below : (q r m : ℕ) → LooksBack c w z k q r m → m < terminals c
  looks_below q r m y =
      let e : k ≡ stage.transitions = sym o.total ∙ stage.ordered.total in
      stage.terminals y.transition m (omega (arith, y.below)) y.follows

  pub known : (q q' a p s : ℕ) (found : List ℕ) (accept meet : ℕ) → q < n → q' ≡ q → a ≡ get_or t₀ (row_of c 0 + terminals c) 0 → p ≡ productions c → s ≡ get_or z (shifts_at + q) 0
      → ((r : ℕ) → r < productions c → Holds (get_or found r 0) (LooksBack c w z k q' r)) → Holds accept (Accepts a q)
      → ((i v : ℕ) → v < 1024 → (bit s i ≡ true) ↔ (v ≢ 0) → (bit meet i ≡ true) ↔ Two (Numbers p v found accept i)) → Known c t₀ w z n k q found accept s meet
  known q q' a p s found accept meet h eq ea ep es looks accepting meeting = record {
    looks = subst (λ (x : ℕ). (r : ℕ) → r < productions c → Holds (get_or found r 0) (LooksBack c w z k x r)) eq looks;
    accepting = subst (λ (x : ℕ). Holds accept (Accepts x q)) (ea ∙ next_cell c t₀ n 0 (terminals c) (omega arith) (omega (arith, (well_formed c o.formed).limits.nonterminals_from))) accepting;
    shifting = subst (λ (x : ℕ). Holds x (Shifts c (next_of c t₀ n) q)) (sym es) (stage.shifts q h);
    meeting = subst (λ (x : ℕ). (i v : ℕ) → v < 1024 → (bit s i ≡ true) ↔ (v ≢ 0) → (bit meet i ≡ true) ↔ Two (Numbers x v found accept i)) ep meeting;
  }

  module _ (q : ℕ) (t : List ℕ) (done : Rows c (Stands c t₀ w z n k) q t₀ t) (hq : q < n) where
    -- row q is still as it was
    pub row_as : (m : ℕ) → m < terminals c + nonterminals c → get_or t (row_of c q + m) 0 ≡ next_of c t₀ n q m
    row_as m h = done.behind (row_of c q + m) (omega arith) ∙ next_cell c t₀ n q m hq h

    module _ (found : List ℕ) (accept shifts meet : ℕ) (is : Known c t₀ w z n k q found accept shifts meet) where
      to : (m : ℕ) → m < terminals c → (v : ℕ) → Numbers (productions c) (next q m) found accept m v → Stands c t₀ w z n k q m v
      to m h = numbers_act c w z n k next stage.numbered q m h found accept is.looks is.accepting

      from : (m : ℕ) → m < terminals c → (v : ℕ) → Stands c t₀ w z n k q m v → Numbers (productions c) (next q m) found accept m v
      from m h = act_numbers c w z n k next stage.numbered q m h found accept is.looks is.accepting

      one : (m : ℕ) → m < terminals c → (bit meet m ≡ true → ⊥) → Single (Numbers (productions c) (next q m) found accept m)
      one m h = meet_single c w z n k next stage.numbered q m h found accept is.looks is.accepting shifts meet is.shifting is.meeting

      module _ (t' : List ℕ) (none : Met meet (terminals c) None) (r : Row (row_of c q) (productions c) found accept t t') where
        low : (m : ℕ) → m < terminals c → IsCell (Stands c t₀ w z n k q m) (get_or t' (row_of c q + m) 0)
        low m h =
            cell_same (to m h) (from m h) (get_or t' (row_of c q + m) 0)
            (written_cell (productions c) (next q m) found accept m (get_or t' (row_of c q + m) 0) (one m h (none m h))
            (subst (λ (s : ℕ). Written (productions c) s found accept m (get_or t' (row_of c q + m) 0)) (row_as m (omega arith)) (r.cells m)))

        high : (m : ℕ) → terminals c ≤ m → get_or t' (row_of c q + m) 0 ≡ get_or t (row_of c q + m) 0
        high m h =
            written_kept (productions c) (get_or t (row_of c q + m) 0) found accept m (get_or t' (row_of c q + m) 0)
            (λ i l g. let b = looks_below q i m ((is.looks i l).only m g) in omega arith)
            (λ g. let e = (is.accepting.only m g).end_marker in let b = (well_formed c o.formed).limits.terminals_from in omega arith) (r.cells m)

        rows_one : Rows c (Stands c t₀ w z n k) (q + 1) t₀ t'
        rows_one = record {
          long = r.long ∙ done.long;
          cells = λ p m h l.
              ⊎_elim
              (λ (g : p < q). subst (IsCell (Stands c t₀ w z n k p m)) (sym (r.before (row_of c p + m) (row_below c p q m g (omega arith)))) (done.cells p m g l))
              (λ (e : p ≡ q). subst (λ (x : ℕ). IsCell (Stands c t₀ w z n k x m) (get_or t' (row_of c x + m) 0)) (sym e) (low m l))
              (below_suc h);
          others = λ p x h l b.
              ⊎_elim
              (λ (g : p < q). r.before (row_of c p + x) (row_below c p q x g b) ∙ done.others p x g l b)
              (λ (e : p ≡ q). subst (λ (y : ℕ). get_or t' (row_of c y + x) 0 ≡ get_or t₀ (row_of c y + x) 0) (sym e) (high x l ∙ done.behind (row_of c q + x) (omega arith)))
              (below_suc h);
          behind = λ i h.
              let f = row_next c q in
              let e : row_of c q + (i - row_of c q) ≡ i = omega arith in
              subst (λ (y : ℕ). get_or t' y 0 ≡ get_or t₀ y 0) e (high (i - row_of c q) (omega arith) ∙ done.behind (row_of c q + (i - row_of c q)) (omega arith));
        }

      -- one row more
      pub rows_more : (b p : ℕ) (t' : List ℕ) → b ≡ row_of c q → p ≡ productions c → Met meet (terminals c) None → Row b p found accept t t' → Rows c (Stands c t₀ w z n k) (q + 1) t₀ t'
      rows_more b p t' eb ep none r = rows_one t' none (rw (eb, ep) at r)

      -- the first cell where two meet
      pub crossed : (m : ℕ) → Met meet (terminals c) (Some m) → Crossed (Stands c t₀ w z n k) n (terminals c) q m
      crossed m least = record {
        state = hq;
        terminal = least.0;
        two = meet_two c w z n k next stage.numbered q m least.0 found accept is.looks is.accepting shifts meet is.shifting is.meeting least.1;
        before = λ p i hp hi y. go p i hi y;
      }
        where
          row : (i : ℕ) → i < terminals c → i < m → Single (Stands c t₀ w z n k q i)
          row i hi l = let y = one i hi (least.2 i l) in record { only = λ v u a d. y.only v u (from i hi v a) (from i hi u d) }

          go : (p i : ℕ) → i < terminals c → Before p i q m → Single (Stands c t₀ w z n k p i)
          go p i hi (lower_state l) = cell_single (get_or t (row_of c p + i) 0) (done.cells p i l hi)
          go p i hi (lower_symbol e l) = subst (λ (x : ℕ). Single (Stands c t₀ w z n k x i)) (sym e) (row i hi l)

  -- ---- the answer

  beyond : (q : ℕ) (t : List ℕ) → q ≤ n → Rows c (Stands c t₀ w z n k) q t₀ t → (i : ℕ) → table_size ≤ i → get_or t i 0 ≡ get_or t₀ i 0
  beyond q t h done i l = done.behind i (omega (arith, row_fits c w k o q (omega (arith, stage.numbered.most))))

  pub searched_met : (q m : ℕ) (t : List ℕ) (r : Conflict) → Rows c (Stands c t₀ w z n k) q t₀ t → Crossed (Stands c t₀ w z n k) n (terminals c) q m → Named (Stands c t₀ w z n k q m) q m r
      → Searched c (Stands c t₀ w z n k) n t₀ t (Err r)
  searched_met q m t r done x y = record {
    answer = rw (y.state, y.terminal) (record { state = x.state; terminal = x.terminal; numbers = y.numbers; before = x.before });
    long = done.long;
    beyond = beyond q t (omega (arith, x.state)) done;
  }

  pub searched_free : (q : ℕ) (t : List ℕ) (u : Unit {0}) → q ≤ n → n ≤ q → Rows c (Stands c t₀ w z n k) q t₀ t → Searched c (Stands c t₀ w z n k) n t₀ t (Ok u)
  searched_free q t u h l done =
      let e : q ≡ n = omega arith in
      record { answer = subst (λ (x : ℕ). Rows c (Stands c t₀ w z n k) x t₀ t) e done; long = done.long; beyond = beyond q t h done }

  -- 256 rows, as many entering symbols and the header fit
  pub size_fits : row_of c n + n ≤ table_size
  size_fits = rows_fit c (well_formed c o.formed) n stage.numbered.most

  -- the rows, then all that belongs to the table; or zeros
  pub outcome_is : (e t t' : List ℕ) (r : Result (Unit {0}) Conflict) → ((q : ℕ) → q < n → get_or e q 0 ≡ entering_of w q) → Searched c (Stands c t₀ w z n k) n t₀ t r → Closed c e n t t' r
      → Outcome c (next_of c t₀ n) (Stands c t₀ w z n k) (entering_of w) n t₀ t' r
  outcome_is e t t' (Ok u) entries s f =
      let done : Rows c (Stands c t₀ w z n k) n t₀ t = s.answer in
      tabled c n (next_of c t₀ n) (Stands c t₀ w z n k) (entering_of w) e t₀ t t' s.long s.beyond entries done.cells (λ q x h l b. done.others q x h l b ∙ next_cell c t₀ n q x h b) f
  outcome_is e t t' (Err r) entries s f = (s.answer, f ∙ covered_same table_size [] t₀ t s.long s.beyond)
