-- The table, row by row.
use mathlib.Core.List.{List, [], ◌∷◌}
use mathlib.Core.Logic.{⊎_elim}
use mathlib.Core.Path.{◌≡◌, refl, sym, ap, ◌∙◌}
use Prim.Native.Nat.{ℕ, zero, suc, ◌+◌, ◌≤◌, ◌<◌}
use native.Mathlib.Nat.{not-suc-le-zero, le_refl}
use native.Mathlib.Numerals.{add-one}
use native.Mathlib.Omega.{arith}
use lib.ListN.{length, get_or, set, length-set}
use lib.Seq.{get_or-set_other}
use borrow.Author.Tests.{lt-ltb, le-ltb}
use Rattle.std.specs.Prelude.{Option, Some, None}
use Rattle.closures.proofs.AreaLaws.{kept_same, kept_then}
use Rattle.closures.specs.Areas.{slots_end, slot, Kept, Prepared}
use Rattle.closures.specs.Numbers.{first_of}
use Rattle.closures.specs.Sets.{Closed, Start}
use Rattle.grammar.proofs.CardLaws.{WellFormed}
use Rattle.grammar.specs.Card.{terminals, nonterminals, productions, grammar_of}
use Rattle.items.specs.Item.{item_limit, Put, Empty}
use Rattle.sets.proofs.HasLaws.{lt_or_ge}
use Rattle.sets.proofs.ListLaws.{each_same}
use Rattle.states.proofs.RowLaws.{cell_kept}
use Rattle.areas.specs.Areas.{table_size, row_of}
use Rattle.areas.proofs.RowLaws.{row_next, row_mono, row_fits}
use Rattle.states.specs.States.{transition, Row, Crowd, Rowed, whole, stopped, Table, Stated, finished, beyond, Built}
use Rattle.lr.specs.States.{Taken, row_of as cells_of}

row_first : (c : List ℕ) (q : ℕ) → row_of c 0 ≤ row_of c q
row_first c q = ⊎_elim (λ (v : 0 < q). let m = row_mono c 0 q v in omega arith) (λ (v : q ≤ 0). let z : q ≡ 0 = omega arith in rw z (le_refl (row_of c 0))) (lt_or_ge 0 q)

pub transition_is : (c t : List ℕ) (q x : ℕ) → x < terminals c + nonterminals c → transition c t q x ≡ get_or t (row_of c q + x) 0
unfolding transition
transition_is c t q x h = rw (lt-ltb x (terminals c + nonterminals c) h)

pub transition_none : (c t : List ℕ) (q x : ℕ) → terminals c + nonterminals c ≤ x → transition c t q x ≡ 0
unfolding transition
transition_none c t q x h = rw (le-ltb x (terminals c + nonterminals c) h)

pub taken_same : {row row' : ℕ → List ℕ} {q n : ℕ} → ((p : ℕ) → p < q → row p ≡ row' p) → Taken row q n → Taken row' q n
taken_same e Taken.none = Taken.none
taken_same e (Taken.one {q = q} t h g) = Taken.one (taken_same (λ p l. e p (omega arith)) t) h (rw (e q (omega arith)) at g)

pub start_of : (c : List ℕ) (i : ℕ) (e r z : List ℕ) → i ≡ first_of c (productions c) → Empty e → Put e i r → Closed c r z → Start c z
start_of c i e r z ei em p cl = record { core = r; only = λ k. p.items k ∙ rw (em.items k, ei); closed = cl }

pub table_start : (c z t : List ℕ) → Start c (slot z 0) → Prepared c z → Table c z t z 1 t 0
table_start c z t st pr = record {
  some = omega arith;
  most = omega arith;
  start = st;
  apart = λ p q a b. absurd (let y : ⊥ = omega arith in y);
  prepared = pr;
  edge = λ p h. absurd (not-suc-le-zero h);
  cells = λ p y h. absurd (not-suc-le-zero h);
  order = Taken.none;
  low = λ k h. refl;
  high = kept_same t (row_of c 0);
  behind = kept_same z slots_end;
  long = refl;
  wide = refl;
}

module _ (c z₀ t₀ z y : List ℕ) (n m : ℕ) (t u : List ℕ) (q : ℕ) (f : WellFormed c) (T : Table c z₀ t₀ z n t q) (h : q < n)
    (r : Row c (slot z q) z n (set t (row_of c q) 0) (row_of c q) y m u (terminals c + nonterminals c)) where
  width_pos : 0 < terminals c + nonterminals c
  width_pos = omega (arith, f.limits.terminals_from)

  -- below the row nothing changed
  below : (k : ℕ) → k < row_of c q → get_or u k 0 ≡ get_or t k 0
  below k l = r.low k l ∙ get_or-set_other t (row_of c q) k 0 0 (λ e. omega arith)

  same : (p x : ℕ) → p < q → transition c u p x ≡ transition c t p x
  same p x l =
      ⊎_elim
      (λ (v : x < terminals c + nonterminals c). transition_is c u p x v ∙ below (row_of c p + x) (let w = row_mono c p q l in omega arith) ∙ sym (transition_is c t p x v))
      (λ (v : terminals c + nonterminals c ≤ x). transition_none c u p x v ∙ sym (transition_none c t p x v))
      (lt_or_ge x (terminals c + nonterminals c))

  ordered : Taken (cells_of (grammar_of c) (transition c u)) (q + 1) m
  ordered =
      rw (add-one q)
      (Taken.one {m = m} (taken_same (λ p l. each_same (terminals c + nonterminals c) _ _ (λ x k. ap (λ (v : ℕ). v ∷ []) (sym (same p x l)))) T.order) h
      (rw (each_same (terminals c + nonterminals c) (λ x. transition c u q x ∷ []) (λ x. get_or u (row_of c q + x) 0 ∷ []) (λ x k. ap (λ (v : ℕ). v ∷ []) (transition_is c u q x k))) r.given))

  pub table_more : Table c z₀ t₀ y m u (q + 1)
  table_more = record {
    some = r.some;
    most = r.most;
    start = rw (r.old 0 T.some) T.start;
    apart = r.apart;
    prepared = r.prepared;
    edge = λ p b.
        ⊎_elim
        (λ (v : p < q). same p 0 v ∙ T.edge p v)
        (λ (v : q ≤ p). let e : p ≡ q = omega arith in rw e (transition_is c u q 0 width_pos ∙ r.edge))
        (lt_or_ge p q);
    cells = λ p x b px l.
        ⊎_elim
        (λ (v : p < q). rw (same p x v, r.old p (omega arith)) (cell_kept c z y n m (slot z p) x (transition c t p x) r.more r.old (T.cells p x v px l)))
        (λ (v : q ≤ p). let e : p ≡ q = omega arith in rw (e, transition_is c u q x l, r.old q h) (r.cells x px l))
        (lt_or_ge p q);
    order = ordered;
    low = λ k b. below k (let w = row_first c q in omega arith) ∙ T.low k b;
    high = record {
      kept = λ k b.
          let nx = row_next c q in
          let w = width_pos in
          r.high.kept k (omega arith) ∙ get_or-set_other t (row_of c q) k 0 0 (λ e. omega arith) ∙ T.high.kept k (omega arith);
    };
    behind = kept_then T.behind r.behind (omega arith);
    long = r.long ∙ simp length-set T.long;
    wide = r.wide ∙ T.wide;
  }

pub rowed_whole : (c s z₀ : List ℕ) (n₀ : ℕ) (t₀ : List ℕ) (at : ℕ) (z t : List ℕ) (n : ℕ) → Rowed c s z₀ n₀ t₀ at z t (Some n) → Row c s z₀ n₀ t₀ at z n t (terminals c + nonterminals c)
rowed_whole c s z₀ n₀ t₀ at z t n h = go h refl
  where
    go : {o : Option ℕ} → Rowed c s z₀ n₀ t₀ at z t o → o ≡ Some n → Row c s z₀ n₀ t₀ at z n t (terminals c + nonterminals c)
    go (whole m r) e = let v : m ≡ n = cc in rw v at r
    go (stopped x) e = cc

pub rowed_stopped : (c s z₀ : List ℕ) (n₀ : ℕ) (t₀ : List ℕ) (at : ℕ) (z t : List ℕ) → Rowed c s z₀ n₀ t₀ at z t None → Crowd c s z₀ n₀ t₀ at z t
rowed_stopped c s z₀ n₀ t₀ at z t h = go h refl
  where
    go : {o : Option ℕ} → Rowed c s z₀ n₀ t₀ at z t o → o ≡ None → Crowd c s z₀ n₀ t₀ at z t
    go (whole m r) e = cc
    go (stopped x) e = x

-- ---- the whole

-- the same from an area that was the same behind the slots
table_from : (c z₀ z₁ t₀ z : List ℕ) (n : ℕ) (t : List ℕ) (q : ℕ) → Kept z₀ slots_end z₁ → length z₁ ≡ length z₀ → Table c z₁ t₀ z n t q → Table c z₀ t₀ z n t q
table_from c z₀ z₁ t₀ z n t q k e T = record {
  some = T.some;
  most = T.most;
  start = T.start;
  apart = T.apart;
  prepared = T.prepared;
  edge = T.edge;
  cells = T.cells;
  order = T.order;
  low = T.low;
  high = T.high;
  behind = kept_then k T.behind (le_refl slots_end);
  long = T.long;
  wide = T.wide ∙ e;
}

stated_from : (c z₀ z₁ t₀ z t : List ℕ) (r : Option ℕ) → Kept z₀ slots_end z₁ → length z₁ ≡ length z₀ → Stated c z₁ t₀ z t r → Stated c z₀ t₀ z t r
stated_from c z₀ z₁ t₀ z t _ k e (finished n T) = finished n (table_from c z₀ z₁ t₀ z n t n k e T)
stated_from c z₀ z₁ t₀ z t _ k e (beyond z₂ n t₁ q T h x) = beyond z₂ n t₁ q (table_from c z₀ z₁ t₀ z₂ n t₁ q k e T) h x

sets_kept : (c z₀ t₀ z t : List ℕ) (r : Option ℕ) → Stated c z₀ t₀ z t r → Kept z₀ slots_end z
sets_kept c z₀ t₀ z t _ (finished n T) = T.behind
sets_kept c z₀ t₀ z t _ (beyond z₁ n t₁ q T h x) = kept_then T.behind x.row.behind (le_refl slots_end)

table_kept : (c z₀ t₀ z t : List ℕ) (r : Option ℕ) → WellFormed c → Stated c z₀ t₀ z t r → Kept t₀ table_size t
table_kept c z₀ t₀ z t _ f (finished n T) = kept_then (kept_same t₀ table_size) T.high (end n T.some T.most)
  where
    end : (n : ℕ) → 0 < n → n ≤ 256 → row_of c n ≤ table_size
    end zero p h = absurd (not-suc-le-zero p)
    end (suc n) p h = let l = row_fits c f n h in rw (← add-one n, row_next c n) l
table_kept c z₀ t₀ z t _ f (beyond z₁ n t₁ q T h x) =
    let l = row_fits c f q (let m = T.most in omega arith) in
    record {
      kept = λ k b.
          x.row.high.kept k (omega (arith, x.below)) ∙ get_or-set_other t₁ (row_of c q) k 0 0 (λ e. omega (arith, x.below)) ∙ T.high.kept k (omega (arith, x.below));
    }

pub built : (c t₀ z₀ z₁ w₀ t z w : List ℕ) (r : Option ℕ) → WellFormed c → Kept z₀ slots_end z₁ → length z₁ ≡ length z₀ → Stated c z₁ t₀ z t r → Kept w₀ item_limit w → Built c t₀ z₀ w₀ t z w r
built c t₀ z₀ z₁ w₀ t z w r f k e s kw =
    let u = stated_from c z₀ z₁ t₀ z t r k e s in
    record { stated = u; table_kept = table_kept c z₀ t₀ z t r f u; sets_kept = sets_kept c z₀ t₀ z t r u; words_kept = kw }
