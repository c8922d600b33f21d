-- A line has 72 columns and a line feed behind them, and no line feed among them.
use mathlib.Core.Path.{◌≡◌, refl, ◌∙◌}
use mathlib.Core.Logic.{◌≢◌}
use mathlib.Core.List.{List, [], ◌∷◌, ◌++◌, append_assoc}
use Prim.Native.Nat.{ℕ, zero, suc, ◌+◌, ◌-◌, ◌*◌, ◌<◌, ◌≤◌}
use native.Mathlib.Omega.{arith}
use lib.ListN.{length, length-append, length-replicate}
use Rattle.decimal.specs.Digits.{decimal_of}
use Rattle.decimal.specs.Form.{Numeral, digit, longer}
use Rattle.decimal.proofs.Decimal.{decimal_numeral, decimal_length}
use Rattle.sets.specs.Lists.{each}
use Rattle.sets.proofs.ListLaws.{each_length}
use Rattle.tables.specs.Layout.{width, cell_of}
use Rattle.listing.proofs.Room.{Small}
use Rattle.pages.specs.Pages.{blanks, page_line, aligned, cells_on, opening, cells_text, row_line}
use Rattle.pages.specs.Sheets.{NoFeed}

blanks_length : (n : ℕ) → length (blanks n) ≡ n
blanks_length n = length-replicate {A = ℕ} n 32

pub aligned_columns : (k n : ℕ) → length (aligned k n) ≡ (k - length (decimal_of n)) + length (decimal_of n)
unfolding aligned
aligned_columns k n = rw (length-append, blanks_length (k - length (decimal_of n))) (omega arith)

aligned_length : (k n : ℕ) → length (decimal_of n) ≤ k → length (aligned k n) ≡ k
aligned_length k n h = aligned_columns k n ∙ omega arith

pub opening_length : (q i : ℕ) → q < 10000 → length (opening q i) ≡ 4
unfolding opening
opening_length q zero h = aligned_length 4 q (decimal_length 3 q h)
opening_length q (suc i) h = refl

pub aligned_six : (n : ℕ) → n < 65536 → length (aligned 6 n) ≡ 6
aligned_six n h = aligned_length 6 n (decimal_length 5 n (omega arith))

pub cell_length : (t : List ℕ) → Small t → (q x : ℕ) → length (aligned 6 (cell_of t q x)) ≡ 6
unfolding cell_of
cell_length t f q x = aligned_six (cell_of t q x) (f _)

-- a line before it is padded
abbrev pub row_part : List ℕ → ℕ → ℕ → List ℕ
row_part t q i = opening q i ++ (cells_text t q i ++ blanks 2)

pub cells_length : (t : List ℕ) → Small t → (q i : ℕ) → length (cells_text t q i) ≡ cells_on (width t) i * 6
cells_length t f q i = each_length (cells_on (width t) i) 6 _ (λ k h. cell_length t f q (11 * i + k))

part_length : (t : List ℕ) → Small t → (q i : ℕ) → q < 10000 → length (row_part t q i) ≡ 6 + cells_on (width t) i * 6
part_length t f q i h =
    rw (length-append (opening q i) (cells_text t q i ++ blanks 2), opening_length q i h, length-append (cells_text t q i) (blanks 2), cells_length t f q i)
    (omega arith)

-- a text padded to 72 columns
abbrev pub padded : List ℕ → List ℕ
padded text = text ++ blanks (72 - length text)

pub line_padded : (text : List ℕ) → page_line text ≡ padded text ++ 10 ∷ []
unfolding page_line
line_padded text = rw append_assoc

pub padded_length : (text : List ℕ) → length text ≤ 72 → length (padded text) ≡ 72
padded_length text h = rw (length-append, blanks_length (72 - length text)) (omega arith)

line_length : (text : List ℕ) → length text ≤ 72 → length (page_line text) ≡ 73
line_length text h = rw (line_padded, length-append, padded_length text h)

pub part_fits : (t : List ℕ) → Small t → (q i : ℕ) → q < 10000 → length (row_part t q i) ≤ 72
part_fits t f q i h = rw (part_length t f q i h) (omega arith)

pub row_line_length : (t : List ℕ) → Small t → (q i : ℕ) → q < 10000 → length (row_line t q i) ≡ 73
unfolding row_line
row_line_length t f q i h = line_length (row_part t q i) (part_fits t f q i h)

pub blank_line_length : length (page_line []) ≡ 73
unfolding page_line
blank_line_length = refl

pub no_feed_nil : NoFeed []
no_feed_nil i = omega arith

no_feed_append : (xs ys : List ℕ) → NoFeed xs → NoFeed ys → NoFeed (xs ++ ys)
no_feed_append [] ys f g i = g i
no_feed_append (x ∷ xs) ys f g zero = f 0
no_feed_append (x ∷ xs) ys f g (suc i) = no_feed_append xs ys (λ i. f (suc i)) g i

no_feed_blanks : (n : ℕ) → NoFeed (blanks n)
no_feed_blanks zero i = omega arith
no_feed_blanks (suc n) zero = omega arith
no_feed_blanks (suc n) (suc i) = no_feed_blanks n i

no_feed_one : (b : ℕ) → b ≢ 10 → NoFeed (b ∷ [])
no_feed_one b h zero = h
no_feed_one b h (suc i) = omega arith

no_feed_numeral : {ds : List ℕ} {n : ℕ} → Numeral ds n → NoFeed ds
no_feed_numeral (digit {d} h) = no_feed_one (48 + d) (omega arith)
no_feed_numeral (longer {ds} {n} {d} x h) = no_feed_append ds ((48 + d) ∷ []) (no_feed_numeral x) (no_feed_one (48 + d) (omega arith))

no_feed_each : (n : ℕ) (f : ℕ → List ℕ) → ((i : ℕ) → NoFeed (f i)) → NoFeed (each n f)
no_feed_each zero f h = no_feed_nil
no_feed_each (suc n) f h = no_feed_append (each n f) (f n) (no_feed_each n f h) (h n)

no_feed_aligned : (k n : ℕ) → NoFeed (aligned k n)
unfolding aligned
no_feed_aligned k n = no_feed_append (blanks (k - length (decimal_of n))) (decimal_of n) (no_feed_blanks (k - length (decimal_of n))) (no_feed_numeral (decimal_numeral n))

no_feed_opening : (q i : ℕ) → NoFeed (opening q i)
unfolding opening
no_feed_opening q zero = no_feed_aligned 4 q
no_feed_opening q (suc i) = no_feed_blanks 4

pub no_feed_padded : (text : List ℕ) → NoFeed text → NoFeed (padded text)
no_feed_padded text f = no_feed_append text (blanks (72 - length text)) f (no_feed_blanks (72 - length text))

pub no_feed_part : (t : List ℕ) (q i : ℕ) → NoFeed (row_part t q i)
no_feed_part t q i =
    no_feed_append (opening q i) (cells_text t q i ++ blanks 2) (no_feed_opening q i)
    (no_feed_append (cells_text t q i) (blanks 2) (no_feed_each (cells_on (width t) i) _ (λ k. no_feed_aligned 6 (cell_of t q (11 * i + k)))) (no_feed_blanks 2))
