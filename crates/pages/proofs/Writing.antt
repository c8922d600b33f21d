-- Lines and rows are written part by part: each law goes from the parts to the whole.
use mathlib.Core.Path.{◌≡◌, refl, sym, ap, ◌∙◌}
use mathlib.Core.List.{List, [], ◌∷◌, ◌++◌, append_assoc}
use Prim.Native.Nat.{ℕ, zero, suc, ◌+◌, ◌-◌, ◌*◌, ◌/◌, ◌<◌, ◌≤◌}
use native.Mathlib.Numerals.{add-one}
use native.Mathlib.Omega.{arith}
use lib.ListN.{length, get_or, length-append, replicate-append-replicate}
use Rattle.sets.specs.Lists.{each}
use Rattle.sets.proofs.ListLaws.{each_same}
use Rattle.tables.specs.Layout.{states, productions, width, row_at, cell_of}
use Rattle.decimal.specs.Digits.{decimal_of}
use Rattle.decimal.specs.declared.writer.Page.{Page}
use Rattle.decimal.specs.Writing.{Wrote}
use Rattle.decimal.proofs.Decimal.{decimal_one, decimal_more, decimal_length}
use Rattle.decimal.proofs.Written.{wrote_none, wrote_both}
use Rattle.listing.proofs.Lines.{Placed, placed_next}
use Rattle.pages.specs.Pages.{blanks, page_line, aligned, row_lines, cells_on, opening, row_line, row_text, rows_text, fill_lines, pages_text}
use Rattle.pages.specs.Parts.{cells_from, line_from, row_from}
use Rattle.pages.proofs.Lines.{aligned_columns, aligned_six}

-- one blank more
pub blanks_next : (n : ℕ) {p q r : Page} → Wrote p (blanks n) q → Wrote q (32 ∷ []) r → Wrote p (blanks (n + 1)) r
blanks_next n h k = rw (← replicate-append-replicate {A = ℕ} n 1 32) (wrote_both h k)

-- one more of the texts f at 0, at 1, ..
pub each_next : (f : ℕ → List ℕ) (i : ℕ) {p q r : Page} → Wrote p (each i f) q → Wrote q (f i) r → Wrote p (each (i + 1) f) r
each_next f i h k = rw add-one (wrote_both h k)

-- the digits of a number, and of its tenth
pub one_digit : (n : ℕ) → n < 10 → length (decimal_of n) ≡ 1
one_digit n h = rw (decimal_one n h) refl

pub one_less : (n : ℕ) → 10 ≤ n → length (decimal_of n) ≡ length (decimal_of (n / 10)) + 1
one_less n h = rw (decimal_more n h, length-append) refl

-- a number right-aligned
pub right_done : (k n d gap : ℕ) {p q r : Page} → d ≡ length (decimal_of n) → gap ≡ k - d → Wrote p (blanks gap) q → Wrote q (decimal_of n) r → Wrote p (aligned k n) r
unfolding aligned
right_done k n d gap a b g h = rw (b, a) at (wrote_both g h)

-- how a line opens, and in how many columns
pub opens_state : (q i : ℕ) → i ≡ 0 → opening q i ≡ aligned 4 q
unfolding opening
opens_state q i e = rw e refl

pub opens_blank : (q i : ℕ) → (i ≡ 0 → ⊥) → opening q i ≡ blanks 4
unfolding opening
opens_blank q zero h = absurd (h refl)
opens_blank q (suc i) h = refl

pub opened_state : (q i d : ℕ) → i ≡ 0 → d ≡ length (decimal_of q) → length (opening q i) ≡ (4 - d) + d
opened_state q i d h e = rw (e, opens_state q i h) (aligned_columns 4 q)

pub opened_blank : (q i : ℕ) → (i ≡ 0 → ⊥) → length (opening q i) ≡ 4
opened_blank q i h = rw (opens_blank q i h) refl

-- twenty digits at most
pub few_digits : (n : ℕ) → n < 18446744073709551616 → length (decimal_of n) ≤ 20
few_digits n h = decimal_length 19 n (omega arith)

-- a blank line
pub blank_line : page_line [] ≡ blanks 72 ++ 10 ∷ []
unfolding page_line
blank_line = refl

-- the cells of a line one by one: they are all of 6 columns
abbrev pub cell_at : List ℕ → ℕ → ℕ → List ℕ
cell_at t from k = aligned 6 (get_or t (from + k) 0)

-- the cells so far, and one cell more
pub record Celled (t : List ℕ) (from : ℕ) (start : Page) (i : ℕ) (page : Page) : Type 0 where
  pub wrote : Wrote start (each i (cell_at t from)) page
  pub wide : length (each i (cell_at t from)) ≡ 6 * i

pub cells_next : {t : List ℕ} {from i : ℕ} {start page next : Page} → Celled t from start i page → (x : ℕ) → (x ≡ get_or t (from + i) 0) × (x < 65536)
    → Wrote page (aligned 6 x) next → Celled t from start (i + 1) next
cells_next {t} {from} {i} w x e f =
    let g : get_or t (from + i) 0 ≡ x = sym e.0 in
    let k = aligned_six x e.1 in
    record { wrote = each_next (cell_at t from) i w.wrote (rw g f); wide = rw (add-one, length-append, g) (omega (arith, k, w.wide)) }

pub cells_none : (t : List ℕ) (from : ℕ) (page : Page) → Celled t from page 0 page
cells_none t from page = record { wrote = wrote_none page; wide = refl }

-- a line from its opening, its cells and its end
pub line_done : (t : List ℕ) (q i from n o columns : ℕ) {p a b c d : Page} → o ≡ length (opening q i) → columns ≡ o + 6 * n + 2 → length (cells_from t from n) ≡ 6 * n
    → Wrote p (opening q i) a → Wrote a (cells_from t from n) b → Wrote b (blanks 2) c → Wrote c (blanks (72 - columns) ++ 10 ∷ []) d → Wrote p (line_from t q i from n) d
unfolding line_from page_line
line_done t q i from n o columns e f l g h j k =
    let m : length (opening q i ++ (cells_from t from n ++ blanks 2)) ≡ columns = rw (length-append, length-append, l) (omega arith) in
    rw (m, append_assoc, append_assoc) (wrote_both g (wrote_both h (wrote_both j k)))

-- the row of a state is the one that begins at its place
row_at_is : (t : List ℕ) (q : ℕ) → row_text t q ≡ row_from t q (row_at (productions t) (states t) (width t) q) (width t)
unfolding row_line row_from line_from cells_from cell_of
row_at_is t q = each_same (row_lines (width t)) _ _ (λ i h. ap (λ (cs : List ℕ). page_line (opening q i ++ (cs ++ blanks 2))) (each_same (cells_on (width t) i) _ _ (λ k l. ap (λ (n : ℕ). aligned 6 (get_or t n 0)) (omega arith))))

-- line k of the row of state q, whose w cells begin at a place
abbrev pub line_at : List ℕ → ℕ → ℕ → ℕ → ℕ → List ℕ
line_at t q from w k = line_from t q k (from + 11 * k) (cells_on w k)

-- what holds in the loop over the rows: the rows written, and where the next one stands
pub record Going (t : List ℕ) (count w from q : ℕ) (start page : Page) : Type 0 where
  pub placed : Placed t count w from q
  pub wrote : Wrote start (each q (row_text t)) page

pub rows_start : {t : List ℕ} {count w from : ℕ} → Placed t count w from 0 → (page : Page) → Going t count w from 0 page page
rows_start g page = record { placed = g; wrote = wrote_none page }

pub rows_next : {t : List ℕ} {count w from q : ℕ} {start page next : Page} → Going t count w from q start page → Wrote page (row_from t q from w) next
    → Going t count w (from + w) (q + 1) start next
rows_next {t} {q = q} g h = record {
  placed = placed_next g.placed;
  wrote = each_next (row_text t) q g.wrote (rw (row_at_is t q, ← g.placed.place, ← g.placed.wide) h);
}

pub rows_all : {t : List ℕ} {count w from q : ℕ} {start page : Page} → Going t count w from q start page → q ≡ count → Wrote start (rows_text t) page
unfolding rows_text
rows_all {t} {q = q} g e = let k : states t ≡ q = sym (e ∙ g.placed.all) in rw k g.wrote

-- the lines that fill a table's last page
pub fill_is : (t : List ℕ) (count w lines : ℕ) → count ≡ get_or t 0 0 → w ≡ width t → lines ≡ row_lines w → fill_lines (count * lines) ≡ fill_lines (states t * row_lines (width t))
unfolding states
fill_is t count w lines e f g = rw (g, e, f) refl

-- a table's pages: the rows, and blank lines behind them
pub table_done : (t : List ℕ) (k : ℕ) {p q r : Page} → Wrote p (rows_text t) q → k ≡ fill_lines (states t * row_lines (width t)) → Wrote q (each k (λ i. page_line [])) r
    → Wrote p (pages_text t) r
unfolding pages_text
table_done t k h e l = wrote_both h (rw e at l)
