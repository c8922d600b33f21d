-- What the checks leave of a table and an input that they let pass.
use Prim.Native.Nat.{ℕ, zero, suc, ◌+◌, ◌-◌, ◌*◌, ◌<◌, ◌≤◌}
use mathlib.Core.Path.{◌≡◌, refl}
use mathlib.Core.Bool.{Bool, true, false, not, ◌&&◌}
use mathlib.Core.Logic.{⊎_elim}
use mathlib.Core.List.{List}
use native.Mathlib.Omega.{arith}
use lib.ListN.{length, get_or, drop, length-drop, get_or-eq_default}
use lib.Dec.{ltb, leb, eqb}
use borrow.Author.Tests.{lt-ltb, le-ltb, le-leb, eq-eqb, ne_eqb, eqb-true, ltb-true, leb-true}
use Rattle.sets.specs.Tests.{between}
use Rattle.sets.proofs.HasLaws.{lt_or_ge}
use Rattle.sets.proofs.TestLaws.{and_true, and_left, and_right, all_at, between_true, between_at, passes, neither}
use Rattle.tables.specs.Layout.{states, terminals, nonterminals, productions, width, cell_of, left_of, size_of}
use Rattle.tables.specs.Shape.{Shaped}
use Rattle.machine.specs.Checks.{sizes_ok, production_ok, terminal_cell_ok, cell_ok, row_ok, productions_ok, cells_ok, entries_ok, terminal_ok, input_ok, table_refusal, input_refusal, area_refusal, refusal_of}
use Rattle.tables.specs.declared.Shape.{Shape}
use Rattle.tables.proofs.Places.{row_within}

-- the limits of the sizes
pub record Sized (t : List ℕ) : Type 0 where
  pub states_are : (1 ≤ states t) × (states t ≤ 256)
  pub terminals_are : (1 ≤ terminals t) × (terminals t ≤ 64)
  pub nonterminals_are : (1 ≤ nonterminals t) × (nonterminals t ≤ 60)
  pub productions_are : (1 ≤ productions t) × (productions t ≤ 128)

pub sized : (t : List ℕ) → sizes_ok t ≡ true → Sized t
unfolding sizes_ok
sized t e =
    let a = and_right (between 1 256 (states t)) _ e in
    let b = and_right (between 1 64 (terminals t)) _ a in
    record {
      states_are = between_at 1 256 (states t) (and_left (between 1 256 (states t)) _ e);
      terminals_are = between_at 1 64 (terminals t) (and_left (between 1 64 (terminals t)) _ a);
      nonterminals_are = between_at 1 60 (nonterminals t) (and_left (between 1 60 (nonterminals t)) _ b);
      productions_are = between_at 1 128 (productions t) (and_right (between 1 60 (nonterminals t)) _ b);
    }

-- a table that the checks let pass
pub record Checked (t : List ℕ) : Type 0 where
  pub long : 4 ≤ length t
  pub sizes : Sized t
  pub whole : size_of t ≤ length t
  pub productions_passed : productions_ok t ≡ true
  pub cells_passed : cells_ok t ≡ true
  pub entries_passed : entries_ok t ≡ true

pub checked : (t : List ℕ) → table_refusal t ≡ 0 → Checked t
unfolding table_refusal
checked t e =
    let p1 = passes (leb 4 (length t)) 20 _ e in
    let p2 = passes (sizes_ok t) 21 _ p1.1 in
    let p3 = passes (leb (size_of t) (length t)) 20 _ p2.1 in
    let p4 = passes (productions_ok t) 22 _ p3.1 in
    let p5 = passes (cells_ok t) 23 _ p4.1 in
    let p6 = passes (entries_ok t) 43 _ p5.1 in
    record {
      long = leb-true 4 (length t) p1.0;
      sizes = sized t p2.0;
      whole = leb-true (size_of t) (length t) p3.0;
      productions_passed = p4.0;
      cells_passed = p5.0;
      entries_passed = p6.0;
    }

-- and conversely
pub sizes_pass : {t : List ℕ} → Sized t → sizes_ok t ≡ true
unfolding sizes_ok
sizes_pass {t} s =
    let a = s.states_are in
    let b = s.terminals_are in
    let c = s.nonterminals_are in
    let d = s.productions_are in
    and_true (between_true 1 256 (states t) a.0 a.1)
    (and_true (between_true 1 64 (terminals t) b.0 b.1)
    (and_true (between_true 1 60 (nonterminals t) c.0 c.1) (between_true 1 128 (productions t) d.0 d.1)))

pub checked_passes : {t : List ℕ} → Checked t → table_refusal t ≡ 0
unfolding table_refusal
checked_passes {t} c =
    rw (le-leb 4 (length t) c.long, sizes_pass c.sizes, le-leb (size_of t) (length t) c.whole, c.productions_passed, c.cells_passed, c.entries_passed)

-- what a run needs; n is the length of its stack area
pub record Passed (t l : List ℕ) (n : ℕ) : Type 0 where
  pub table : Checked t
  pub input_passed : input_ok t l ≡ true
  pub places : 0 < n

-- what 0 as the refusal says; n and k are the lengths of both stack areas
pub record Taken (t l : List ℕ) (n k : ℕ) : Type 0 where
  pub passed : Passed t l n
  pub short : length l ≤ 65535
  pub second : n ≤ k

pub taken : (t l : List ℕ) (n k : ℕ) → refusal_of t l n k ≡ 0 → Taken t l n k
unfolding refusal_of input_refusal area_refusal
taken t l n k e =
    let p1 = neither (table_refusal t) _ e in
    let p2 = neither (input_refusal t l) (area_refusal n k) p1.1 in
    let p3 = passes (leb (length l) 65535) 24 _ p2.0 in
    let p4 = passes (input_ok t l) 25 _ p3.1 in
    let p5 = passes (ltb 0 n) 26 _ p2.1 in
    let p6 = passes (leb n k) 44 _ p5.1 in
    record {
      passed = record { table = checked t p1.0; input_passed = p4.0; places = ltb-true 0 n p5.0 };
      short = leb-true (length l) 65535 p3.0;
      second = leb-true n k p6.0;
    }

pub taken_passes : {t l : List ℕ} {n k : ℕ} → Taken t l n k → refusal_of t l n k ≡ 0
unfolding refusal_of input_refusal area_refusal
taken_passes {t} {l} {n} {k} ta =
    rw (checked_passes ta.passed.table, le-leb (length l) 65535 ta.short, ta.passed.input_passed, lt-ltb 0 n ta.passed.places, le-leb n k ta.second)

false_true : {A : Type 0} {b : Bool} → b ≡ false → b ≡ true → A
false_true e k = let z : ◌≡◌ {A = ℕ} 0 1 = cc in absurd (omega arith)

positive : (x : ℕ) → not (eqb x 0) ≡ true → 0 < x
positive zero e = false_true refl e
positive (suc x) e = omega arith

module _ {t : List ℕ} (pa : Checked t) where
  cell_passed : (q x : ℕ) → q < states t → x < width t → cell_ok t x (cell_of t q x) ≡ true
  unfolding cells_ok row_ok
  cell_passed q x h k = all_at (λ x. cell_ok t x (cell_of t q x)) (width t) (all_at (row_ok t) (states t) pa.cells_passed q h) x k

  pub below_width : (x : ℕ) → x < terminals t → x < width t
  unfolding width
  below_width x h = omega arith

  -- a shift leads to a state, and is of a terminal other than the end marker
  shift_cell : (x v : ℕ) → x < terminals t → 0 < v → v < 1024 → cell_ok t x v ≡ true → (v < states t) × (0 < x)
  unfolding cell_ok terminal_cell_ok
  shift_cell x v k a b e =
      ⊎_elim
      (λ (h : v < states t). (h, positive x (rw (lt-ltb x (terminals t) k, ne_eqb v 0 (λ z. omega arith), lt-ltb v (states t) h) at e)))
      (λ (h : states t ≤ v).
      false_true refl (rw (lt-ltb x (terminals t) k, ne_eqb v 0 (λ z. omega arith), le-ltb v (states t) h, ne_eqb v 4096 (λ z. omega arith), lt-ltb v 1024 b) at e))
      (lt_or_ge v (states t))

  pub shift_passed : (q x : ℕ) → q < states t → x < terminals t → 0 < cell_of t q x → cell_of t q x < 1024 → (cell_of t q x < states t) × (0 < x)
  shift_passed q x h k a b = shift_cell x (cell_of t q x) k a b (cell_passed q x h (below_width x k))

  -- a reduction is by a production of the table
  reduce_cell : (x v : ℕ) → x < terminals t → 1024 ≤ v → (v ≡ 4096 → ⊥) → cell_ok t x v ≡ true → v - 1024 < productions t
  unfolding cell_ok terminal_cell_ok
  reduce_cell x v k a b e =
      let s = pa.sizes.states_are.1 in
      ltb-true (v - 1024) (productions t)
      (rw (lt-ltb x (terminals t) k, ne_eqb v 0 (λ z. omega arith), le-ltb v (states t) (omega arith), ne_eqb v 4096 b, le-ltb v 1024 a) at e)

  pub reduce_passed : (q x : ℕ) → q < states t → x < terminals t → 1024 ≤ cell_of t q x → (cell_of t q x ≡ 4096 → ⊥) → cell_of t q x - 1024 < productions t
  reduce_passed q x h k a b = reduce_cell x (cell_of t q x) k a b (cell_passed q x h (below_width x k))

  -- accept stands in the end marker's column alone
  accept_cell : (x v : ℕ) → x < terminals t → v ≡ 4096 → cell_ok t x v ≡ true → x ≡ 0
  unfolding cell_ok terminal_cell_ok
  accept_cell x v k a e =
      let s = pa.sizes.states_are.1 in
      eqb-true x 0 (rw (lt-ltb x (terminals t) k, ne_eqb v 0 (λ z. omega arith), le-ltb v (states t) (omega arith), eq-eqb v 4096 a) at e)

  pub accept_passed : (q x : ℕ) → q < states t → x < terminals t → cell_of t q x ≡ 4096 → x ≡ 0
  accept_passed q x h k a = accept_cell x (cell_of t q x) k a (cell_passed q x h (below_width x k))

  pub left_passed : (r : ℕ) → r < productions t → (terminals t ≤ left_of t r) × (left_of t r < width t)
  unfolding productions_ok production_ok
  left_passed r h =
      let e = and_left (leb (terminals t) (left_of t r) && ltb (left_of t r) (width t)) _ (all_at (production_ok t) (productions t) pa.productions_passed r h) in (
        leb-true (terminals t) (left_of t r) (and_left (leb (terminals t) (left_of t r)) _ e),
        ltb-true (left_of t r) (width t) (and_right (leb (terminals t) (left_of t r)) _ e),
      )

  -- in a nonterminal's column stands a state, or 0
  pub goto_passed : (q x : ℕ) → q < states t → terminals t ≤ x → x < width t → cell_of t q x < states t
  unfolding cell_ok
  goto_passed q x h k b = ltb-true (cell_of t q x) (states t) (rw (le-ltb x (terminals t) k) at (cell_passed q x h b))

  pub left_within : (r : ℕ) → r < productions t → 4 + r < length t
  unfolding size_of
  left_within r h = let w = pa.whole in omega arith

  pub length_within : (r : ℕ) → r < productions t → 4 + productions t + r < length t
  unfolding size_of
  length_within r h = let w = pa.whole in omega arith

  module _ {z : Shape} (s : Shaped t z) where
    pub cells_within : z.cells ≤ length t
    unfolding size_of
    cells_within = let w = pa.whole in omega (arith, s.cells_at)

    -- the cell of state q and symbol x lies within the rows
    pub cell_within : (q x : ℕ) → q < states t → x < width t → q * z.width + x < length (drop z.cells t)
    unfolding size_of
    cell_within q x h k =
        let w = pa.whole in
        let r = row_within (width t) q (states t) h in
        rw (length-drop, s.cells_at, s.width_is) (omega arith)

-- a terminal of the input is one of the table's, but not the end marker
terminal_passed : {t l : List ℕ} {n : ℕ} → Passed t l n → (i : ℕ) → i < length l → terminal_ok t (get_or l i 0) ≡ true
unfolding input_ok
terminal_passed {t} {l} pa i h = all_at (λ i. terminal_ok t (get_or l i 0)) (length l) pa.input_passed i h

pub no_end : {t l : List ℕ} {n : ℕ} → Passed t l n → (i : ℕ) → i < length l → 0 < get_or l i 0
unfolding terminal_ok
no_end {l} pa i h = ltb-true 0 (get_or l i 0) (and_left (ltb 0 (get_or l i 0)) _ (terminal_passed pa i h))

-- the next terminal is one of the table's, the end marker among them
pub next_passed : {t l : List ℕ} {n : ℕ} → Passed t l n → (i : ℕ) → get_or l i 0 < terminals t
unfolding terminal_ok
next_passed {t} {l} pa i =
    ⊎_elim (λ (h : i < length l). ltb-true (get_or l i 0) (terminals t) (and_right (ltb 0 (get_or l i 0)) _ (terminal_passed pa i h)))
    (λ (h : length l ≤ i). rw (get_or-eq_default l 0 h) pa.table.sizes.terminals_are.0)
    (lt_or_ge i (length l))
