-- Lines are written part by part: each law goes from the parts to the line.
use mathlib.Core.Path.{◌≡◌, ap, ◌∙◌}
use mathlib.Core.List.{List, [], ◌∷◌, ◌++◌, append_assoc, append-nil}
use Prim.Native.Nat.{ℕ, ◌+◌, ◌-◌, ◌*◌, ◌<◌, ◌≤◌}
use native.Mathlib.Numerals.{add-one}
use native.Mathlib.Nat.{zero-add, zero-mul, suc-mul}
use native.Mathlib.Omega.{arith}
use lib.ListN.{length, get_or}
use Rattle.decimal.specs.Digits.{decimal_of}
use Rattle.decimal.specs.declared.writer.Page.{Page}
use Rattle.decimal.specs.Writing.{Wrote}
use Rattle.decimal.proofs.Written.{wrote_none, wrote_both}
use Rattle.tables.specs.Layout.{states, productions, width, left_at, length_at, header_size, entered_at, cells_at}
use Rattle.listing.specs.Listing.{spaced, line_of, row_of, table_text, table_word, left_word, length_word, entered_word, refusal_text, refused_word}
use Rattle.listing.specs.Parts.{part, arrays_of, row_from, rows_of}
use Rattle.listing.proofs.Parts.{part_append, part_whole, rows_last, table_parts_is}

spaced_last : (ns : List ℕ) (x : ℕ) → spaced (ns ++ x ∷ []) ≡ spaced ns ++ 32 ∷ decimal_of x
unfolding spaced
spaced_last [] x = append-nil (32 ∷ decimal_of x)
spaced_last (n ∷ ns) x = rw append_assoc (ap (λ (l : List ℕ). 32 ∷ decimal_of n ++ l) (spaced_last ns x))

-- so far no number is written
pub numbers_none : (t : List ℕ) (from end : ℕ) (p : Page) → end ≡ 0 → Wrote p (spaced (part t from end)) p
unfolding spaced part
numbers_none t from end p e = rw e (wrote_none p)

-- one number more
pub numbers_next : (t : List ℕ) (from i x : ℕ) {p q r s : Page} → from ≤ i → x ≡ get_or t i 0 → Wrote p (spaced (part t from (i - from))) q → Wrote q (32 ∷ []) r
    → Wrote r (decimal_of x) s → Wrote p (spaced (part t from (i + 1 - from))) s
unfolding part
numbers_next t from i x l e f g h =
    let m : i + 1 - from ≡ i - from + 1 = omega arith in
    let n : from + (i - from) ≡ i = omega arith in
    rw (m, part_append t from (i - from) 1, n, ← e, spaced_last) (wrote_both f (wrote_both g h))

-- the next row begins where the row ends
pub row_next : (t : List ℕ) (q from columns : ℕ) → from ≡ row_from t q → columns ≡ width t → from + columns ≡ row_from t (q + 1)
row_next t q from columns e f = rw (e, f, add-one, suc-mul q (width t)) (omega arith)

-- what every loop over the rows has: how many there are, how wide they are and where the next one stands; and that no sum wraps
pub record Placed (t : List ℕ) (count columns from q : ℕ) : Type 0 where
  pub place : from ≡ row_from t q
  pub wide : columns ≡ width t
  pub all : count ≡ states t
  pub few : count < 65536
  pub narrow : columns < 131072
  pub room : from ≤ 196612 + q * 131072

pub placed_start : (t : List ℕ) (count columns p from : ℕ) → (count ≡ get_or t 0 0) × (count < 65536) → (columns ≡ width t) × (columns < 131072)
    → (p ≡ get_or t 3 0) × (p < 65536) → from ≡ cells_at p count → Placed t count columns from 0
unfolding states productions
placed_start t count columns p from e f g h = record {
  place = rw (zero-mul) (omega arith);
  wide = f.0;
  all = e.0;
  few = e.1;
  narrow = f.1;
  room = omega arith;
}

pub placed_next : {t : List ℕ} {count columns from q : ℕ} → Placed t count columns from q → Placed t count columns (from + columns) (q + 1)
placed_next {t} {count} {columns} {from} {q} g = record {
  place = row_next t q from columns g.place g.wide;
  wide = g.wide;
  all = g.all;
  few = g.few;
  narrow = g.narrow;
  room = omega (arith, g.room, g.narrow);
}

-- what holds in the loop that writes the rows
pub record Going (t : List ℕ) (count columns from q : ℕ) (start page : Page) : Type 0 where
  pub placed : Placed t count columns from q
  pub wrote : Wrote start (rows_of t 0 q) page

pub rows_start : (t : List ℕ) (count columns from : ℕ) (page : Page) → Placed t count columns from 0 → Going t count columns from 0 page page
unfolding rows_of
rows_start t count columns from page g = record { placed = g; wrote = wrote_none page }

pub rows_next : {t : List ℕ} {count columns from q : ℕ} {start page next : Page} → Going t count columns from q start page
    → Wrote page (row_of q (part t from (from + columns - from))) next → Going t count columns (from + columns) (q + 1) start next
rows_next {t} {columns = columns} {from = from} {q = q} {start = start} {next = next} g h = record {
  placed = placed_next g.placed;
  wrote =
      (let l : from + columns - from ≡ width t = omega (arith, g.placed.wide) in
      rw (add-one, rows_last t 0 q, zero-add) (wrote_both g.wrote (rw (l, g.placed.place) at h)));
}

pub rows_done : {t : List ℕ} {count columns from q : ℕ} {start page : Page} → Going t count columns from q start page → q ≡ count → Wrote start (rows_of t 0 (states t)) page
rows_done {t} {q = q} {start = start} {page = page} g e = let k : q ≡ states t = e ∙ g.placed.all in rw k at g.wrote

pub arrays_done : (t : List ℕ) (n k x y z w : ℕ) {p a b c : Page} → n ≡ get_or t 3 0 → k ≡ get_or t 0 0 → x ≡ left_at 0 → y ≡ length_at n 0 → z ≡ entered_at n 0 → w ≡ cells_at n k
    → Wrote p (line_of left_word (part t x (y - x))) a → Wrote a (line_of length_word (part t y (z - y))) b → Wrote b (line_of entered_word (part t z (w - z))) c
    → Wrote p (arrays_of t) c
unfolding arrays_of productions states
arrays_done t n k x y z w en ek ex ey ez ew f g h =
    let lefts : y - x ≡ n = omega arith in
    let lengths : z - y ≡ n = omega arith in
    let entries : w - z ≡ k = omega arith in
    let ly : y ≡ left_at n = omega arith in
    let hz : z ≡ header_size n = omega arith in
    wrote_both (rw (lefts, ex, en) at f) (wrote_both (rw (lengths, ly, en) at g) (rw (entries, hz, en, ek) at h))

pub table_done : (t : List ℕ) (x : ℕ) {p a b c : Page} → x ≡ left_at 0 → Wrote p (line_of table_word (part t 0 (x - 0))) a → Wrote a (arrays_of t) b
    → Wrote b (rows_of t 0 (states t)) c → Wrote p (table_text t) c
table_done t x e f g h =
    let j : x - 0 ≡ left_at 0 = omega arith in
    rw (table_parts_is t) (wrote_both (rw j at f) (wrote_both g h))

pub refusal_done : (ns : List ℕ) {p q : Page} → Wrote p (line_of refused_word (part ns 0 (length ns - 0))) q → Wrote p (refusal_text ns) q
unfolding refusal_text
refusal_done ns h = let k : length ns - 0 ≡ length ns = omega arith in rw (k, part_whole ns) at h
