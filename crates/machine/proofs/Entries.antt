-- What 44 tests, in words.
use Prim.Native.Nat.{ℕ, ◌<◌}
use mathlib.Core.Path.{◌≡◌, refl, sym, ap, ◌∙◌}
use mathlib.Core.Bool.{Bool, true, false, cond, ◌&&◌}
use mathlib.Core.List.{List}
use lib.Dec.{ltb, eqb}
use borrow.Author.Tests.{lt-ltb, eq-eqb, ltb-true, eqb-true}
use Rattle.sets.specs.Tests.{all_below}
use Rattle.sets.proofs.TestLaws.{and_true, and_left, and_right, all_at, all_true}
use Rattle.tables.specs.Layout.{states, width, entered_of, cell_of}
use Rattle.machine.specs.Checks.{entry_ok, names_ok, row_names_ok, entries_ok}

pub record Entries (t : List ℕ) : Type 0 where
  -- every entry is a symbol, and that of state 0 is 0
  pub symbol : (q : ℕ) → q < states t → entered_of t q < width t
  pub first : entered_of t 0 ≡ 0
  -- a cell of 1 to Q−1 names a state whose entry is the cell's column
  pub named : (q x : ℕ) → q < states t → x < width t → 0 < cell_of t q x → cell_of t q x < states t → entered_of t (cell_of t q x) ≡ x

named_ok : (t : List ℕ) (x v : ℕ) → names_ok t x v ≡ true → 0 < v → v < states t → entered_of t v ≡ x
unfolding names_ok
named_ok t x v e h k =
    let b : (ltb 0 v && ltb v (states t)) ≡ true = and_true (lt-ltb 0 v h) (lt-ltb v (states t) k) in
    eqb-true (entered_of t v) x (ap (λ (b : Bool). cond b (eqb (entered_of t v) x) true) (sym b) ∙ e)

names_passed : (t : List ℕ) (x v : ℕ) → (0 < v → v < states t → entered_of t v ≡ x) → names_ok t x v ≡ true
unfolding names_ok
names_passed t x v h = go (ltb 0 v) (ltb v (states t)) refl refl
  where
    go : (a b : Bool) → ltb 0 v ≡ a → ltb v (states t) ≡ b → cond (a && b) (eqb (entered_of t v) x) true ≡ true
    go true true ea eb = eq-eqb (entered_of t v) x (h (ltb-true 0 v ea) (ltb-true v (states t) eb))
    go true false ea eb = refl
    go false b ea eb = refl

module _ (t : List ℕ) where
  abbrev rows : Bool
  rows = all_below (states t) (row_names_ok t)

  pub entries : entries_ok t ≡ true → Entries t
  unfolding entries_ok entry_ok row_names_ok
  entries e =
      let b = and_right (all_below (states t) (entry_ok t)) _ e in
      let c = and_right (eqb (entered_of t 0) 0) rows b in
      record {
        symbol = λ q h. ltb-true (entered_of t q) (width t) (all_at (entry_ok t) (states t) (and_left (all_below (states t) (entry_ok t)) _ e) q h);
        first = eqb-true (entered_of t 0) 0 (and_left (eqb (entered_of t 0) 0) rows b);
        named = λ q x h k. named_ok t x (cell_of t q x) (all_at (λ x. names_ok t x (cell_of t q x)) (width t) (all_at (row_names_ok t) (states t) c q h) x k);
      }

  pub entries_pass : Entries t → entries_ok t ≡ true
  unfolding entries_ok entry_ok row_names_ok
  entries_pass w =
      and_true (all_true (entry_ok t) (states t) (λ q h. lt-ltb (entered_of t q) (width t) (w.symbol q h)))
      (and_true (eq-eqb (entered_of t 0) 0 w.first)
      (all_true (row_names_ok t) (states t) (λ q h. all_true (λ x. names_ok t x (cell_of t q x)) (width t) (λ x k. names_passed t x (cell_of t q x) (w.named q x h k)))))
