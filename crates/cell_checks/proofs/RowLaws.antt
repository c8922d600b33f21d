-- A row tested column by column is the row of the paper's check.
use Prim.Native.Nat.{ℕ, ◌+◌, ◌-◌, ◌*◌, ◌<◌, ◌≤◌}
use mathlib.Core.Path.{◌≡◌, refl, sym, ap, ◌∙◌}
use mathlib.Core.Bool.{Bool, false, cond, ◌&&◌}
use mathlib.Core.Logic.{◌⊎◌, inl, inr, ⊎_elim}
use mathlib.Core.List.{List}
use native.Mathlib.Omega.{arith}
use native.Mathlib.Decide.{ℕ_discrete}
use lib.ListN.{length, get_or, take, drop, length-drop}
use lib.Seq.{get_or-take, get_or-drop, length-take-le}
use lib.Dec.{ltb}
use borrow.Author.Tests.{lt-ltb, le-ltb, le-leb, lt-leb, eq-eqb, ne_eqb}
use Rattle.sets.specs.Tests.{all_below}
use Rattle.sets.proofs.HasLaws.{lt_or_ge}
use Rattle.sets.proofs.TestLaws.{all_split, all_ext}
use Rattle.tables.specs.Layout.{states, terminals, productions, width, cell_of, size_of, length_at, row_at}
use Rattle.machine.specs.Checks.{terminal_cell_ok, cell_ok, row_ok}
use Rattle.tables.specs.declared.Shape.{Shape}
use Rattle.tables.proofs.Places.{row_within, terminals_le}
use Rattle.std.proofs.Math.Bool.{and_assoc}
use Rattle.machine.proofs.Checked.{Sized, sized}
use Rattle.cell_checks.specs.Rows.{reduction, end_test, action_test, Whole}

-- the last two tests of a terminal's cell, without the difference
reduction_test : (p v : ℕ) → reduction (1024 + p) v ≡ cond (ltb v 1024) false (ltb (v - 1024) p)
reduction_test p v =
    ⊎_elim
    (λ (l : v < 1024). rw (lt-ltb v 1024 l, lt-leb 1024 v l))
    (λ (g : 1024 ≤ v).
    rw (le-ltb v 1024 g, le-leb 1024 v g)
    (⊎_elim
    (λ (l : v < 1024 + p). lt-ltb v (1024 + p) l ∙ sym (lt-ltb (v - 1024) p (omega arith)))
    (λ (g : 1024 + p ≤ v). le-ltb v (1024 + p) g ∙ sym (le-ltb (v - 1024) p (omega arith)))
    (lt_or_ge v (1024 + p))))
    (lt_or_ge v 1024)

no_reduction : (p v : ℕ) → v < 1024 → reduction (1024 + p) v ≡ false
no_reduction p v h = rw (lt-leb 1024 v h)

-- a test of each number of a part, and of its place there
pub all_part : (p : ℕ → ℕ → Bool) (l : List ℕ) (k n : ℕ) → k + n ≤ length l → all_below (length (take n (drop k l))) (λ i. p i (get_or (take n (drop k l)) i 0)) ≡ all_below n (λ i. p i (get_or l (k + i) 0))
all_part p l k n h =
    let e : length (take n (drop k l)) ≡ n = length-take-le n (drop k l) (rw (length-drop k l) (omega arith)) in
    rw e (all_ext _ _ n (λ i f. ap (p i) (get_or-take n (drop k l) i 0 f ∙ get_or-drop k l i 0)))

module _ (t : List ℕ) (s : Sized t) where
  -- the column of a terminal other than the end marker
  action_at_is : (x v : ℕ) → 0 < x → Dec (v ≡ 0) → Dec (v ≡ 4096) → (v < states t) ⊎ (states t ≤ v) → action_test (states t) (1024 + productions t) v ≡ terminal_cell_ok t x v
  unfolding action_test terminal_cell_ok
  action_at_is x v a (yes z) d h = rw (eq-eqb v 0 z, lt-ltb v (states t) (omega (arith, s.states_are.0)))
  action_at_is x v a (no z) d (inl h) = rw (ne_eqb v 0 z, lt-ltb v (states t) h, ne_eqb x 0 (λ e. omega arith))
  action_at_is x v a (no z) (yes d) (inr h) =
      rw (ne_eqb v 0 z, le-ltb v (states t) h, eq-eqb v 4096 d, ne_eqb x 0 (λ e. omega arith), le-leb 1024 v (omega arith), le-ltb v (1024 + productions t) (omega (arith, s.productions_are.1)))
  action_at_is x v a (no z) (no d) (inr h) = rw (ne_eqb v 0 z, le-ltb v (states t) h, ne_eqb v 4096 d) (reduction_test (productions t) v)

  action_cell : (x v : ℕ) → 0 < x → x < terminals t → action_test (states t) (1024 + productions t) v ≡ cell_ok t x v
  unfolding cell_ok
  action_cell x v a k = rw (lt-ltb x (terminals t) k) (action_at_is x v a (ℕ_discrete v 0) (ℕ_discrete v 4096) (lt_or_ge v (states t)))

  -- the end marker's column
  end_at : (v : ℕ) → Dec (v ≡ 0) → Dec (v ≡ 4096) → (v < states t) ⊎ (states t ≤ v) → end_test (1024 + productions t) v ≡ terminal_cell_ok t 0 v
  unfolding end_test terminal_cell_ok
  end_at v (yes z) d h = rw (eq-eqb v 0 z)
  end_at v (no z) d (inl h) =
      let q = s.states_are.1 in
      rw (ne_eqb v 0 z, lt-ltb v (states t) h, ne_eqb v 4096 (λ e. omega arith)) (no_reduction (productions t) v (omega arith))
  end_at v (no z) (yes d) (inr h) = rw (ne_eqb v 0 z, le-ltb v (states t) h, eq-eqb v 4096 d)
  end_at v (no z) (no d) (inr h) = rw (ne_eqb v 0 z, le-ltb v (states t) h, ne_eqb v 4096 d) (reduction_test (productions t) v)

  end_cell : (v : ℕ) → end_test (1024 + productions t) v ≡ cell_ok t 0 v
  unfolding cell_ok
  end_cell v = rw (lt-ltb 0 (terminals t) s.terminals_are.0) (end_at v (ℕ_discrete v 0) (ℕ_discrete v 4096) (lt_or_ge v (states t)))

  goto_cell : (x v : ℕ) → terminals t ≤ x → ltb v (states t) ≡ cell_ok t x v
  unfolding cell_ok
  goto_cell x v h = rw (le-ltb x (terminals t) h)

module _ {t : List ℕ} {z : Shape} (w : Whole t z) (q : ℕ) where
  from_is : z.cells + q * z.width ≡ row_at (productions t) (states t) (width t) q
  from_is = rw (w.shaped.cells_at, w.shaped.width_is) refl

  pub at : (x : ℕ) → get_or t (z.cells + q * z.width + x) 0 ≡ cell_of t q x
  unfolding cell_of
  at x = rw from_is

  width_parts : 1 ≤ terminals t → width t ≡ 1 + ((z.terminals - 1) + (z.width - z.terminals))
  unfolding width
  width_parts h = omega (arith, w.shaped.terminals_are, w.shaped.width_is)

  -- the row ends within the table
  pub row_fits : q < states t → z.cells + q * z.width + z.width ≤ length t
  unfolding size_of
  row_fits h =
      let l = w.whole in
      let r = row_within (width t) q (states t) h in
      rw (w.shaped.cells_at, w.shaped.width_is) (omega arith)

  -- what the row's parts lie within
  pub row_bounds : q < states t → (1 ≤ z.terminals) × (z.terminals ≤ z.width) × (z.cells + q * z.width + z.width ≤ length t) × (z.states ≤ 256) × (z.productions ≤ 128)
  row_bounds h =
      let s : Sized t = sized t w.sizes in
      let sh = w.shaped in
      (omega (arith, s.terminals_are, sh.terminals_are), terminals_le sh, row_fits h, omega (arith, s.states_are, sh.states_are), omega (arith, s.productions_are, sh.productions_are))

  -- the row, cut out of the table
  abbrev pub row : List ℕ
  row = take (z.cells + q * z.width + z.width - (z.cells + q * z.width)) (drop (z.cells + q * z.width) t)

  pub row_long : q < states t → length row ≡ z.width
  row_long h = let f = row_fits h in length-take-le _ (drop (z.cells + q * z.width) t) (rw (length-drop (z.cells + q * z.width) t) (omega arith)) ∙ omega arith

  pub row_at_is : (x : ℕ) → x < z.width → get_or row x 0 ≡ cell_of t q x
  row_at_is x h = get_or-take _ (drop (z.cells + q * z.width) t) x 0 (omega arith) ∙ get_or-drop (z.cells + q * z.width) t x 0 ∙ at x

  pub row_parts : {n e : ℕ} {a b c : Bool} → q < states t → n ≡ z.states → e ≡ 1024 + z.productions
      → a ≡ end_test e (get_or row 0 0)
      → b ≡ all_below (length (take (z.terminals - 1) (drop 1 row))) (λ i. action_test n e (get_or (take (z.terminals - 1) (drop 1 row)) i 0))
      → c ≡ all_below (length (take (length row - z.terminals) (drop z.terminals row))) (λ i. ltb (get_or (take (length row - z.terminals) (drop z.terminals row)) i 0) n)
      → ((a && b) && c) ≡ row_ok t q
  unfolding row_ok all_below
  row_parts {n} {e} {a} {b} {c} h en ee ea eb ec =
      let s : Sized t = sized t w.sizes in
      let p : (ℕ → Bool) = λ x. cell_ok t x (cell_of t q x) in
      let sh = w.shaped in
      let en' : n ≡ states t = en ∙ sh.states_are in
      let ee' : e ≡ 1024 + productions t = ee ∙ ap (λ (x : ℕ). 1024 + x) sh.productions_are in
      let tp = s.terminals_are.0 in
      let l : length row ≡ z.width = row_long h in
      let tw = terminals_le sh in
      let parts : width t ≡ 1 + ((z.terminals - 1) + (z.width - z.terminals)) = width_parts tp in
      let fa : a ≡ p 0 = ea ∙ rw ee' (end_cell t s (get_or row 0 0) ∙ ap (cell_ok t 0) (row_at_is 0 (omega (arith, sh.terminals_are)))) in
      let fb : b ≡ all_below (z.terminals - 1) (λ i. p (1 + i)) =
      eb ∙ all_part (λ i. action_test n e) row 1 (z.terminals - 1) (omega (arith, sh.terminals_are)) ∙ all_ext _ _ (z.terminals - 1) (λ i f. rw (en', ee') (action_cell t s (1 + i) _ (omega arith) (omega (arith, sh.terminals_are)) ∙ ap (cell_ok t (1 + i)) (row_at_is (1 + i) (omega (arith, sh.terminals_are))))) in
      let fc : c ≡ all_below (z.width - z.terminals) (λ i. p (1 + ((z.terminals - 1) + i))) =
      ec ∙ all_part (λ i v. ltb v n) row z.terminals (length row - z.terminals) (omega arith) ∙ rw l (all_ext _ _ (z.width - z.terminals) (λ i f.
      let same : z.terminals + i ≡ 1 + ((z.terminals - 1) + i) = omega (arith, sh.terminals_are) in
      rw en' (goto_cell t s (z.terminals + i) _ (omega (arith, sh.terminals_are)) ∙ ap (cell_ok t (z.terminals + i)) (row_at_is (z.terminals + i) (omega arith)) ∙ ap p same))) in
      and_assoc a b c ∙ rw (fa, fb, fc, parts, all_split p 1 ((z.terminals - 1) + (z.width - z.terminals)), all_split (λ i. p (1 + i)) (z.terminals - 1) (z.width - z.terminals))

  pub length_fits : q < z.productions → length_at (productions t) q < length t
  unfolding size_of
  length_fits h = let l = w.whole in omega (arith, w.shaped.productions_are)
