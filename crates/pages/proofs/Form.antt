-- The text of a table is in whole pages.
use mathlib.Core.Path.{◌≡◌}
use mathlib.Core.List.{List, [], ◌∷◌, ◌++◌, append_assoc}
use Prim.Native.Nat.{ℕ, zero, suc, ◌+◌, ◌*◌, ◌/◌, ◌<◌, ◌≤◌}
use native.Mathlib.Omega.{arith}
use native.Mathlib.Nat.{zero-add, suc-add, zero-mul, mul-one}
use lib.ListN.{length, length-append}
use lib.Seq.{take_at}
use Rattle.sets.specs.Lists.{each}
use Rattle.tables.specs.Layout.{states, width}
use Rattle.listing.proofs.Room.{Small}
use Rattle.pages.specs.Pages.{page_line, row_lines, row_line, rows_text, fill_lines, pages_text}
use Rattle.pages.specs.Cells.{line_on}
use Rattle.pages.specs.Sheets.{NoFeed, Lines, nil, cons}
use Rattle.pages.proofs.Lines.{padded, line_padded, padded_length, row_part, part_fits, no_feed_nil, no_feed_padded, no_feed_part}
use Rattle.pages.proofs.Pieces.{behind}

one_line : (text : List ℕ) → length text ≤ 72 → NoFeed text → Lines 1 (page_line text)
one_line text h f = rw (line_padded text) (cons (padded text) (padded_length text h) (no_feed_padded text f) nil)

lines_append : {n m : ℕ} {x y : List ℕ} → Lines n x → Lines m y → Lines (n + m) (x ++ y)
lines_append {m} nil b = rw (zero-add m) b
lines_append {m} {y} (cons {n} l {rest} e f a) b = rw (append_assoc l (10 ∷ rest) y, suc-add n m) (cons l e f (lines_append a b))

lines_each : (n k : ℕ) (f : ℕ → List ℕ) → ((i : ℕ) → i < n → Lines k (f i)) → Lines (n * k) (each n f)
lines_each zero k f h = rw (zero-mul k) nil
lines_each (suc n) k f h =
    let e : suc n * k ≡ n * k + k = omega arith in
    rw e (lines_append (lines_each n k f (λ i l. h i (omega arith))) (h n (omega arith)))

-- parts of one line each
lines_ones : (n : ℕ) (f : ℕ → List ℕ) → ((i : ℕ) → i < n → Lines 1 (f i)) → Lines n (each n f)
lines_ones n f h = rw (mul-one n) at (lines_each n 1 f h)

rows_lines : (t : List ℕ) → Small t → states t ≤ 10000 → Lines (states t * row_lines (width t)) (rows_text t)
unfolding rows_text row_line
rows_lines t f h =
    lines_each (states t) (row_lines (width t)) _ (λ q l.
    lines_ones (row_lines (width t)) _ (λ i k. one_line (row_part t q i) (part_fits t f q i (omega arith)) (no_feed_part t q i)))

pub in_pages : (t : List ℕ) → Small t → states t ≤ 10000 → Lines (60 * ((states t * row_lines (width t) + 59) / 60)) (pages_text t)
unfolding pages_text
in_pages t f h =
    let n : ℕ = states t * row_lines (width t) in
    let e : n + fill_lines n ≡ 60 * ((n + 59) / 60) = omega arith in
    rw e at (lines_append (rows_lines t f h) (lines_ones (fill_lines n) _ (λ i l. one_line [] (omega arith) no_feed_nil)))

-- what is read as a line of such a text is that line: the first one, and those behind it
pub line_first : (l rest : List ℕ) → length l ≡ 72 → line_on (l ++ 10 ∷ rest) 0 ≡ l
line_first l rest e = take_at l (10 ∷ rest) 72 e

pub line_behind : (l rest : List ℕ) (i : ℕ) → length l ≡ 72 → line_on (l ++ 10 ∷ rest) (suc i) ≡ line_on rest i
line_behind l rest i e =
    let k : 73 * suc i ≡ 73 + 73 * i = omega arith in
    rw (k, ← append_assoc l (10 ∷ []) rest) (behind (l ++ 10 ∷ []) rest 73 (73 * i) 72 (rw length-append (omega arith)))
