-- Just the numbers of `TableRefusal`, `Refusal` and `RestrictedRefusal` come as refusals; and what 50 tests, in words.
use Prim.Native.Nat.{ℕ, zero, suc, ◌^◌, ◌<◌, ◌≤◌}
use mathlib.Core.Path.{◌≡◌, refl, sym, ◌∙◌}
use mathlib.Core.Logic.{◌≢◌, ◌↔◌, ◌⊎◌, inl, inr}
use mathlib.Core.Bool.{Bool, true, false, not, false≢true}
use mathlib.Core.List.{List, [], ◌∷◌}
use lib.ListN.{length, replicate, length-replicate}
use lib.Dec.{leb, ltb}
use native.Mathlib.Omega.{arith}
use borrow.Author.Tests.{lt-leb, lt-ltb, ltb-true}
use Rattle.sets.specs.Bit.{bit, Has}
use Rattle.sets.specs.Tests.{all_below, between, unless, first_refusal}
use Rattle.sets.proofs.BitLaws.{bit_above, bit_bound}
use Rattle.sets.proofs.HasLaws.{lt_or_ge, no_bit}
use Rattle.sets.proofs.TestLaws.{and_true, and_left, and_right}
use Rattle.tables.specs.Layout.{states, terminals, nonterminals, productions, width, left_of, length_of, entered_of, cell_of, size_of}
use Rattle.machine.specs.Checks.{sizes_ok, production_ok, terminal_cell_ok, cell_ok, row_ok, productions_ok, cells_ok, entry_ok, names_ok, row_names_ok, entries_ok, terminal_ok, input_ok, table_refusal, input_refusal, area_refusal, refusal_of, closed_ok, restricted_refusal, TableRefusal, table_short, sizes_wrong, production_wrong, cell_wrong, entry_wrong, Refusal, of_table, input_long, terminal_wrong, no_stack, second_short, RestrictedRefusal, as_ever, closed_wrong}

-- ---- what 50 tests, in words

not-true : (b : Bool) → not b ≡ true → b ≡ false
not-true true e = let z : false ≡ true = e in sym z
not-true false e = refl

not-false : {b : Bool} → b ≡ false → not b ≡ true
not-false e = rw e

module _ (t : List ℕ) (closed : ℕ) where
  closed_of : closed_ok t closed ≡ true → (m : ℕ) → Has closed m → (0 < m) × (m < terminals t)
  unfolding closed_ok
  closed_of e m h = (positive m h, below (lt_or_ge m (terminals t)))
    where
      positive : (m : ℕ) → Has closed m → 0 < m
      positive zero h = absurd (false≢true (sym (not-true (bit closed 0) (and_left (not (bit closed 0)) _ e)) ∙ h))
      positive (suc m) h = omega arith

      below : (m < terminals t) ⊎ (terminals t ≤ m) → m < terminals t
      below (inl b) = b
      below (inr b) = absurd (false≢true (sym (bit_above (terminals t) closed m (ltb-true closed (2 ^ terminals t) (and_right (not (bit closed 0)) _ e)) b) ∙ h))

  of_closed : ((m : ℕ) → Has closed m → (0 < m) × (m < terminals t)) → closed_ok t closed ≡ true
  unfolding closed_ok
  of_closed h =
      and_true (not-false (no_bit (bit closed 0) (λ e. omega (arith, (h 0 e).0))))
      (lt-ltb closed (2 ^ terminals t) (bit_bound (terminals t) closed (λ m b. no_bit (bit closed m) (λ e. omega (arith, (h m e).1)))))

  -- a word has neither bit 0 nor a bit at or above T just where the test lets it pass
  pub closed_passed : (closed_ok t closed ≡ true) ↔ ((m : ℕ) → Has closed m → (0 < m) × (m < terminals t))
  closed_passed = (closed_of, of_closed)

-- ---- no others come

module _ (P : ℕ → Type 0) where
  test : (b : Bool) {k r : ℕ} → P k → (r ≢ 0 → P r) → unless b k r ≢ 0 → P (unless b k r)
  test true h rest n = rest n
  test false h rest n = h

  first : (m n : ℕ) → (m ≢ 0 → P m) → (n ≢ 0 → P n) → first_refusal m n ≢ 0 → P (first_refusal m n)
  first zero n f g h = g h
  first (suc m) n f g h = f h

  none : ◌≢◌ {A = ℕ} 0 0 → P 0
  none h = absurd (h refl)

pub table_number : (t : List ℕ) → table_refusal t ≢ 0 → TableRefusal (table_refusal t)
unfolding table_refusal
table_number t =
    test TableRefusal (leb 4 (length t)) table_short
    (test TableRefusal (sizes_ok t) sizes_wrong
    (test TableRefusal (leb (size_of t) (length t)) table_short
    (test TableRefusal (productions_ok t) production_wrong
    (test TableRefusal (cells_ok t) cell_wrong
    (test TableRefusal (entries_ok t) entry_wrong (none TableRefusal))))))

input_number : (t l : List ℕ) → input_refusal t l ≢ 0 → Refusal (input_refusal t l)
unfolding input_refusal
input_number t l = test Refusal (leb (length l) 65535) input_long (test Refusal (input_ok t l) terminal_wrong (none Refusal))

area_number : (n k : ℕ) → area_refusal n k ≢ 0 → Refusal (area_refusal n k)
unfolding area_refusal
area_number n k = test Refusal (ltb 0 n) no_stack (test Refusal (leb n k) second_short (none Refusal))

pub refusal_number_is : (t l : List ℕ) (n k : ℕ) → refusal_of t l n k ≢ 0 → Refusal (refusal_of t l n k)
unfolding refusal_of
refusal_number_is t l n k =
    first Refusal (table_refusal t) _ (λ h. of_table (table_number t h)) (first Refusal (input_refusal t l) (area_refusal n k) (input_number t l) (area_number n k))

pub restricted_number : (t : List ℕ) (closed : ℕ) (l : List ℕ) (n k : ℕ) → restricted_refusal t closed l n k ≢ 0 → RestrictedRefusal (restricted_refusal t closed l n k)
unfolding restricted_refusal
restricted_number t closed l n k =
    first RestrictedRefusal (refusal_of t l n k) _ (λ h. as_ever (refusal_number_is t l n k h)) (test RestrictedRefusal (closed_ok t closed) closed_wrong (none RestrictedRefusal))

-- ---- and each of these comes: tables of one state, terminal, nonterminal and production

-- with this left side, entry and cell of the terminal
abbrev small : ℕ → ℕ → ℕ → List ℕ
small left entered cell = 1 ∷ 1 ∷ 1 ∷ 1 ∷ left ∷ 0 ∷ entered ∷ cell ∷ 0 ∷ []

pub table_comes : {k : ℕ} → TableRefusal k → (t : List ℕ) × (table_refusal t ≡ k)
unfolding table_refusal sizes_ok productions_ok production_ok cells_ok row_ok cell_ok terminal_cell_ok entries_ok entry_ok row_names_ok names_ok all_below between states terminals nonterminals productions width left_of length_of entered_of cell_of size_of
table_comes table_short = ([], refl)
table_comes sizes_wrong = (0 ∷ 0 ∷ 0 ∷ 0 ∷ [], refl)
table_comes production_wrong = (small 0 0 0, refl)
table_comes cell_wrong = (small 1 0 1, refl)
table_comes entry_wrong = (small 1 2 0, refl)

small_passes : table_refusal (small 1 0 0) ≡ 0
unfolding table_refusal sizes_ok productions_ok production_ok cells_ok row_ok cell_ok terminal_cell_ok entries_ok entry_ok row_names_ok names_ok all_below between states terminals nonterminals productions width left_of length_of entered_of cell_of size_of
small_passes = refl

long_input : (t l : List ℕ) → 65535 < length l → input_refusal t l ≡ 25
unfolding input_refusal
long_input t l h = rw (lt-leb (length l) 65535 h)

-- behind a name of its own, so that no check looks at its 65,536 places
a_long_one : (l : List ℕ) × (65535 < length l)
a_long_one = (replicate 65536 0, rw length-replicate (omega arith))

-- a refusal is no 0, so none behind it comes
pub first_is : {m i : ℕ} (x : ℕ) → m ≡ i → i ≢ 0 → first_refusal m x ≡ i
first_is {m = zero} x e n = absurd (n (sym e))
first_is {m = suc m} x e n = e

table_some : {i : ℕ} → TableRefusal i → i ≢ 0
table_some table_short = omega arith
table_some sizes_wrong = omega arith
table_some production_wrong = omega arith
table_some cell_wrong = omega arith
table_some entry_wrong = omega arith

some : {i : ℕ} → Refusal i → i ≢ 0
some (of_table r) = table_some r
some input_long = omega arith
some terminal_wrong = omega arith
some no_stack = omega arith
some second_short = omega arith

pub refusal_comes : {i : ℕ} → Refusal i → (t l : List ℕ) × (n k : ℕ) × (refusal_of t l n k ≡ i)
unfolding refusal_of input_refusal area_refusal input_ok terminal_ok all_below
refusal_comes (of_table r) = let t = table_comes r in (t.0, [], 0, 0, first_is 27 t.1 (table_some r))
refusal_comes input_long = (small 1 0 0, a_long_one.0, 0, 0, rw (small_passes, long_input (small 1 0 0) a_long_one.0 a_long_one.1))
refusal_comes terminal_wrong = (small 1 0 0, 0 ∷ [], 0, 0, rw small_passes refl)
refusal_comes no_stack = (small 1 0 0, [], 0, 0, rw small_passes refl)
refusal_comes second_short = (small 1 0 0, [], 1, 0, rw small_passes refl)

-- a word with bit 0 closes the end marker
pub restricted_comes : {i : ℕ} → RestrictedRefusal i → (t : List ℕ) × (closed : ℕ) × (l : List ℕ) × (n k : ℕ) × (restricted_refusal t closed l n k ≡ i)
unfolding restricted_refusal refusal_of input_refusal area_refusal input_ok all_below closed_ok bit
restricted_comes (as_ever r) = let c = refusal_comes r in (c.0, 1, c.1, c.2, c.3, first_is 50 c.4 (some r))
restricted_comes closed_wrong = (small 1 0 0, 1, [], 1, 1, rw small_passes refl)
