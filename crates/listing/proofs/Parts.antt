-- Parts of a slice, and a table's text in parts.
use mathlib.Core.Path.{◌≡◌, refl, sym, ap, ◌∙◌}
use mathlib.Core.List.{List, [], ◌∷◌, ◌++◌, append_assoc, append-nil}
use Prim.Native.Nat.{ℕ, zero, suc, ◌+◌, ◌≤◌}
use native.Mathlib.Numerals.{add-one}
use native.Mathlib.Nat.{add-zero, zero-add, suc-add}
use native.Mathlib.Omega.{arith}
use lib.ListN.{length, get_or, take, drop}
use lib.Seq.{drop-cons, take-length}
use Rattle.sets.specs.Lists.{each}
use Rattle.sets.proofs.ListLaws.{each_same}
use Rattle.tables.specs.Layout.{states, terminals, nonterminals, productions, width, left_at, header_size, left_of, length_of, entered_of, cell_of}
use Rattle.listing.specs.Listing.{line_of, row_of, table_text, table_word, left_word, length_word, entered_word}
use Rattle.listing.specs.Parts.{part, arrays_of, row_from, rows_of}

pub part_append : (t : List ℕ) (i m n : ℕ) → part t i (m + n) ≡ part t i m ++ part t (i + m) n
unfolding part
part_append t i zero n = rw (zero-add, add-zero) refl
part_append t i (suc m) n =
    let e : i + suc m ≡ i + 1 + m = omega arith in
    rw (suc-add, e) (ap (λ (l : List ℕ). get_or t i 0 ∷ l) (part_append t (i + 1) m n))

-- a part within the list, and the whole of it
part_slice : (t : List ℕ) (i n : ℕ) → i + n ≤ length t → part t i n ≡ take n (drop i t)
unfolding part
part_slice t i zero h = refl
part_slice t i (suc n) h = rw (drop-cons t i 0 (omega arith), add-one) (ap (λ (l : List ℕ). get_or t i 0 ∷ l) (part_slice t (suc i) n (omega arith)))

pub part_whole : (t : List ℕ) → part t 0 (length t) ≡ t
part_whole t = part_slice t 0 (length t) (omega arith) ∙ take-length t

-- a part place by place
each_part : (t : List ℕ) (i n : ℕ) → each n (λ k. get_or t (i + k) 0 ∷ []) ≡ part t i n
unfolding part
each_part t i zero = refl
each_part t i (suc n) =
    let e : part t i (n + 1) ≡ part t i n ++ get_or t (i + n) 0 ∷ [] = part_append t i n 1 in
    rw (each_part t i n) (sym (rw add-one at e))

module _ (t : List ℕ) where
  pub rows_last : (q n : ℕ) → rows_of t q (suc n) ≡ rows_of t q n ++ row_of (q + n) (part t (row_from t (q + n)) (width t))
  unfolding rows_of
  rows_last q zero = rw (add-zero, append-nil) refl
  rows_last q (suc n) =
      let e : q + suc n ≡ q + 1 + n = omega arith in
      rw (e, append_assoc) (ap (λ (l : List ℕ). row_of q (part t (row_from t q) (width t)) ++ l) (rows_last (q + 1) n))

  each_row : (n : ℕ) → each n (λ q. row_of q (part t (row_from t q) (width t))) ≡ rows_of t 0 n
  unfolding rows_of
  each_row zero = refl
  each_row (suc n) = rw (each_row n) (sym (simp zero-add at (rows_last 0 n)))

  rows_text_is : each (states t) (λ q. row_of q (each (width t) (λ x. cell_of t q x ∷ []))) ≡ rows_of t 0 (states t)
  unfolding cell_of
  rows_text_is = each_same (states t) _ _ (λ q h. ap (row_of q) (each_part t (row_from t q) (width t))) ∙ each_row (states t)

  -- the lines of the arrays, and a text behind them
  pub arrays_lines : (bs : List ℕ) → arrays_of t ++ bs ≡ line_of left_word (part t (left_at 0) (productions t))
      ++ (line_of length_word (part t (left_at (productions t)) (productions t)) ++ (line_of entered_word (part t (header_size (productions t)) (states t)) ++ bs))
  unfolding arrays_of
  arrays_lines bs = rw (append_assoc, append_assoc) refl

  abbrev pub table_parts : List ℕ
  table_parts = line_of table_word (part t 0 (left_at 0)) ++ (arrays_of t ++ rows_of t 0 (states t))

  -- the parts of a table stand one behind the other
  pub table_parts_is : table_text t ≡ table_parts
  unfolding table_text states terminals nonterminals productions left_of length_of entered_of part
  table_parts_is =
      rw (
        each_part t 4 (productions t),
        each_part t (left_at (productions t)) (productions t),
        each_part t (header_size (productions t)) (states t),
        rows_text_is,
        arrays_lines (rows_of t 0 (states t)),
      ) refl
