-- The check of the entries as the code makes it is the paper's.
use Prim.Native.Nat.{ℕ, ◌+◌, ◌-◌, ◌<◌, ◌≤◌}
use mathlib.Core.Path.{◌≡◌, sym, ap, ◌∙◌}
use mathlib.Core.Bool.{Bool, true, false, cond, ◌&&◌}
use mathlib.Core.Logic.{⊎_elim}
use mathlib.Core.List.{List}
use native.Mathlib.Omega.{arith}
use native.Mathlib.Decide.{ℕ_discrete}
use lib.ListN.{length, get_or, take, drop}
use lib.Dec.{ltb, eqb}
use borrow.Author.Tests.{lt-ltb, le-ltb, le-leb, lt-leb, ne_eqb}
use Rattle.sets.specs.Tests.{all_below}
use Rattle.sets.proofs.HasLaws.{lt_or_ge}
use Rattle.sets.proofs.TestLaws.{all_split, all_ext, all_at, all_true}
use Rattle.tables.specs.Layout.{states, productions, width, cell_of, entered_at, entered_of, size_of}
use Rattle.tables.specs.declared.Shape.{Shape}
use Rattle.machine.specs.Checks.{names_ok, row_names_ok}
use Rattle.machine.proofs.Checked.{sized}
use Rattle.cell_checks.specs.Rows.{Whole}
use Rattle.cell_checks.proofs.RowLaws.{row, row_long, row_at_is, all_part}
use Rattle.entry_checks.specs.Names.{unnamed}

-- ---- one cell: it names a state or it does not

names : (t : List ℕ) (v : ℕ) (b : Bool) → unnamed (states t) v ≡ b → (ltb 0 v && ltb v (states t)) ≡ cond b false true
unfolding unnamed
names t v b e = go (ℕ_discrete v 0)
  where
    go : Dec (v ≡ 0) → (ltb 0 v && ltb v (states t)) ≡ cond b false true
    go (yes z) = rw (← e, z)
    go (no z) =
        ⊎_elim
        (λ (h : v < states t). rw (← e, lt-ltb 0 v (omega (arith, z)), lt-ltb v (states t) h, ne_eqb v 0 z, lt-leb (states t) v h))
        (λ (h : states t ≤ v). rw (← e, lt-ltb 0 v (omega (arith, z)), le-ltb v (states t) h, ne_eqb v 0 z, le-leb (states t) v h))
        (lt_or_ge v (states t))

module _ (t : List ℕ) (x v : ℕ) where
  pub name_none : unnamed (states t) v ≡ true → names_ok t x v ≡ true
  unfolding names_ok
  name_none e = rw (names t v true e)

  pub name_some : unnamed (states t) v ≡ false → names_ok t x v ≡ eqb (entered_of t v) x
  unfolding names_ok
  name_some e = rw (names t v false e)

module _ {t : List ℕ} {z : Shape} (w : Whole t z) where
  pub entered_fits : (q : ℕ) → q < z.states → entered_at (productions t) q < length t
  unfolding size_of
  entered_fits q h = let l = w.whole in omega (arith, w.shaped.states_are)

  pub some_state : 0 < z.states
  some_state = rw w.shaped.states_are (sized t w.sizes).states_are.0

  pub width_most : z.width ≤ 124
  unfolding width
  width_most = let s = sized t w.sizes in omega (arith, w.shaped.width_is, s.terminals_are.1, s.nonterminals_are.1)

  -- cells of which none names a state
  pub none_named : (l : List ℕ) (x : ℕ) {b : Bool} → b ≡ all_below (length l) (λ i. unnamed z.states (get_or l i 0)) → b ≡ true → b ≡ all_below (length l) (λ i. names_ok t (x + i) (get_or l i 0))
  none_named l x e y =
      y ∙ sym (all_true (λ i. names_ok t (x + i) (get_or l i 0)) (length l) (λ i h.
      name_none t (x + i) _ (rw w.shaped.states_are at (all_at (λ i. unnamed z.states (get_or l i 0)) (length l) (sym e ∙ y) i h))))

  -- ---- a row, part by part

  module _ (q : ℕ) (within : q < states t) where
    abbrev pub named : ℕ → Bool
    named x = names_ok t x (cell_of t q x)

    -- n columns from x on, cut out of the row
    abbrev read : ℕ → ℕ → Bool
    read x n = all_below (length (take n (drop x (row w q)))) (λ i. names_ok t (x + i) (get_or (take n (drop x (row w q))) i 0))

    pub next_part : (x n m : ℕ) {b : Bool} → x + n ≡ m → m ≤ length (row w q) → all_below x named ≡ true → b ≡ read x n → b ≡ all_below m named
    next_part x n m {b = b} s h ea eb =
        let l = row_long w q within in
        let e : b ≡ all_below n (λ i. named (x + i)) =
        eb ∙ all_part (λ i. names_ok t (x + i)) (row w q) x n (omega arith) ∙ all_ext _ _ n (λ i f. ap (names_ok t (x + i)) (row_at_is w q (x + i) (omega arith))) in
        rw (← s, all_split named x n, ea) e

    pub last_part : (x n : ℕ) {b : Bool} → x + n ≡ length (row w q) → all_below x named ≡ true → b ≡ read x n → b ≡ row_names_ok t q
    unfolding row_names_ok
    last_part x n s ea eb =
        let l = row_long w q within in
        let e : width t ≡ z.width = sym w.shaped.width_is in
        rw e (next_part x n z.width (s ∙ l) (omega arith) ea eb)

    pub part_fails : (x n m : ℕ) {b : Bool} → x + n ≡ m → m ≤ length (row w q) → all_below x named ≡ true → b ≡ read x n → b ≡ false → false ≡ row_names_ok t q
    unfolding row_names_ok
    part_fails x n m s h ea eb f =
        let l = row_long w q within in
        let e : width t ≡ m + (z.width - m) = omega (arith, w.shaped.width_is) in
        let k : all_below m named ≡ false = sym (next_part x n m s h ea eb) ∙ f in
        rw (e, all_split named m (z.width - m), k)
