-- A printed text has the numbers that it was made of.
use mathlib.Core.Path.{◌≡◌, refl, sym, ap, ◌∙◌}
use mathlib.Core.List.{List, [], ◌∷◌, ◌++◌, append_assoc, append-nil}
use mathlib.Core.Bool.{true, false}
use mathlib.Core.Option.{none, some}
use Prim.Native.Nat.{ℕ, zero, suc, ◌+◌, ◌-◌, ◌*◌, ◌<◌, ◌≤◌}
use native.Mathlib.Nat.{zero-mul, suc-mul}
use native.Mathlib.Omega.{arith}
use borrow.Author.Tests.{ne_eqb, le-leb}
use lib.ListN.{length, get_or}
use lib.Dec.{eqb}
use Rattle.decimal.specs.Digits.{decimal_of}
use Rattle.decimal.specs.Form.{Separator, blank, line_feed, nil, Numeral, digit, longer, Text, empty, next}
use Rattle.decimal.proofs.Decimal.{decimal_numeral}
use Rattle.decimal.proofs.Parse.{led_text}
use Rattle.tables.specs.Layout.{states, productions, width, size_of, left_at, header_size}
use Rattle.listing.specs.Listing.{spaced, line_of, row_of, table_text, table_word, left_word, length_word, entered_word, colon_word, refused_word, refusal_text}
use Rattle.listing.specs.Numbers.{is_digit, runs, numbers_in}
use Rattle.listing.specs.Parts.{part, arrays_of, row_from, rows_of}
use Rattle.listing.proofs.Lines.{row_next}
use Rattle.listing.proofs.Parts.{part_append, part_whole, arrays_lines, table_parts_is}

a_digit : (d : ℕ) → d < 10 → is_digit (48 + d) ≡ true
unfolding is_digit
a_digit d h = rw (le-leb 48 (48 + d) (omega arith), le-leb (48 + d) 57 (omega arith)) refl

run_begins : (d : ℕ) (bs : List ℕ) → d < 10 → runs none ((48 + d) ∷ bs) ≡ runs (some d) bs
unfolding runs
run_begins d bs h = let e : 48 + d - 48 ≡ d = omega arith in rw (a_digit d h, runs, e) refl

run_goes_on : (v d : ℕ) (bs : List ℕ) → d < 10 → runs (some v) ((48 + d) ∷ bs) ≡ runs (some (v * 10 + d)) bs
unfolding runs
run_goes_on v d bs h = let e : 48 + d - 48 ≡ d = omega arith in rw (a_digit d h, runs, e) refl

pub reads : {ds : List ℕ} {n : ℕ} → Numeral ds n → (bs : List ℕ) → runs none (ds ++ bs) ≡ runs (some n) bs
reads (digit {d} h) bs = run_begins d bs h
reads (longer {ds} {n} {d} x h) bs = rw append_assoc (reads x ((48 + d) ∷ bs) ∙ run_goes_on n d bs h)

-- no colon comes first
abbrev Fresh : List ℕ → Type 0
Fresh bs = eqb (get_or bs 0 0) 58 ≡ false

numeral_fresh : {ds : List ℕ} {n : ℕ} → Numeral ds n → (bs : List ℕ) → Fresh (ds ++ bs)
numeral_fresh (digit {d} h) bs = ne_eqb (48 + d) 58 (λ e. omega arith)
numeral_fresh (longer {ds} {n} {d} x h) bs = rw append_assoc (numeral_fresh x ((48 + d) ∷ bs))

number_ends : (n : ℕ) (ns bs : List ℕ) → Fresh bs → runs (some n) (spaced ns ++ 10 ∷ bs) ≡ n ∷ runs none (spaced ns ++ 10 ∷ bs)
unfolding spaced runs is_digit
number_ends n [] bs f = rw f refl
number_ends n (m ∷ ns) bs f = rw (append_assoc (decimal_of m) (spaced ns) (10 ∷ bs), numeral_fresh (decimal_numeral m) (spaced ns ++ 10 ∷ bs)) refl

-- the numbers of a line
spaced_back : (ns bs : List ℕ) → Fresh bs → runs none (spaced ns ++ 10 ∷ bs) ≡ ns ++ runs none bs
unfolding spaced runs is_digit
spaced_back [] bs f = refl
spaced_back (n ∷ ns) bs f =
    rw (append_assoc (decimal_of n) (spaced ns) (10 ∷ bs))
    (reads (decimal_numeral n) (spaced ns ++ 10 ∷ bs) ∙ number_ends n ns bs f ∙ ap (λ (l : List ℕ). n ∷ l) (spaced_back ns bs f))

-- a word has no number
abbrev Plain : List ℕ → Type 0
Plain w = (bs : List ℕ) → runs none (w ++ bs) ≡ runs none bs

line_back : (w ns bs : List ℕ) → Plain w → Fresh bs → runs none (line_of w ns ++ bs) ≡ ns ++ runs none bs
unfolding line_of
line_back w ns bs p f =
    rw (append_assoc w (spaced ns ++ 10 ∷ []) bs, append_assoc (spaced ns) (10 ∷ []) bs) (p (spaced ns ++ 10 ∷ bs) ∙ spaced_back ns bs f)

-- a row without its state
row_back : (q : ℕ) (ns bs : List ℕ) → Fresh bs → runs none (row_of q ns ++ bs) ≡ ns ++ runs none bs
unfolding row_of runs is_digit
row_back q ns bs f =
    rw (append_assoc (decimal_of q) (colon_word ++ (spaced ns ++ 10 ∷ [])) bs, append_assoc (spaced ns) (10 ∷ []) bs)
    (reads (decimal_numeral q) (colon_word ++ (spaced ns ++ 10 ∷ bs)) ∙ spaced_back ns bs f)

rows_fresh : (t : List ℕ) (q n : ℕ) → Fresh (rows_of t q n)
unfolding rows_of row_of
rows_fresh t q zero = refl
rows_fresh t q (suc n) = refl

rows_back : (t : List ℕ) (q n : ℕ) → runs none (rows_of t q n) ≡ part t (row_from t q) (n * width t)
unfolding rows_of runs part
rows_back t q zero = rw zero-mul refl
rows_back t q (suc n) =
    let e : suc n * width t ≡ width t + n * width t = rw suc-mul (omega arith) in
    rw (row_back q (part t (row_from t q) (width t)) (rows_of t (q + 1) n) (rows_fresh t (q + 1) n), rows_back t (q + 1) n, ← row_next t q (row_from t q) (width t) refl refl, e)
    (sym (part_append t (row_from t q) (width t) (n * width t)))

arrays_join : (t rest : List ℕ) (n k : ℕ) → part t (left_at 0) n ++ (part t (left_at n) n ++ (part t (header_size n) k ++ rest)) ≡ part t (left_at 0) (n + (n + k)) ++ rest
arrays_join t rest n k =
    let e : left_at n + n ≡ header_size n = omega arith in
    rw (part_append t (left_at 0) n (n + k), part_append t (left_at n) n k, e, append_assoc, append_assoc) refl

-- the left sides, the lengths and the entering symbols
arrays_back : (t bs : List ℕ) → Fresh bs → runs none (arrays_of t ++ bs) ≡ part t (left_at 0) (productions t + (productions t + states t)) ++ runs none bs
unfolding line_of runs is_digit
arrays_back t bs f =
    let n : ℕ = productions t in
    rw (arrays_lines t bs)
    (line_back left_word (part t (left_at 0) n) _ (λ bs. refl) refl
    ∙ ap (λ (l : List ℕ). part t (left_at 0) n ++ l)
    (line_back length_word (part t (left_at n) n) _ (λ bs. refl) refl
    ∙ ap (λ (l : List ℕ). part t (left_at n) n ++ l) (line_back entered_word (part t (header_size n) (states t)) bs (λ bs. refl) f))
    ∙ arrays_join t (runs none bs) n (states t))

-- the text of a table has the table's numbers: as many as its sizes say
pub table_back : (t : List ℕ) → numbers_in (table_text t) ≡ part t 0 (size_of t)
unfolding size_of arrays_of line_of runs is_digit
table_back t =
    let n : ℕ = productions t + (productions t + states t) in
    let m : ℕ = states t * width t in
    let e : row_from t 0 ≡ left_at n = rw zero-mul (omega arith) in
    let f : size_of t ≡ left_at (n + m) = omega arith in
    rw (table_parts_is t)
    (line_back table_word (part t 0 (left_at 0)) _ (λ bs. refl) refl
    ∙ ap (λ (l : List ℕ). part t 0 (left_at 0) ++ l)
    (arrays_back t (rows_of t 0 (states t)) (rows_fresh t 0 (states t)) ∙ ap (λ (l : List ℕ). part t (left_at 0) n ++ l) (rows_back t 0 (states t)))
    ∙ rw (e, f, part_append t 0 (left_at 0) (n + m), part_append t (left_at 0) n m) refl)

-- and so the table itself, where it is all there
pub table_back_whole : (t : List ℕ) → length t ≡ size_of t → numbers_in (table_text t) ≡ t
table_back_whole t e = table_back t ∙ rw (← e, part_whole t) refl

-- the text of a refusal has its number and its values
pub refusal_back : (ns : List ℕ) → numbers_in (refusal_text ns) ≡ ns
unfolding refusal_text runs is_digit
refusal_back ns =
    ap numbers_in (sym (append-nil (line_of refused_word ns))) ∙ line_back refused_word ns [] (λ bs. refl) refl ∙ append-nil ns

-- a separator, and a text behind it
data Led : List ℕ → List ℕ → Type 0 where
  led : {b : ℕ} {bs ns : List ℕ} → Separator b → Text bs ns → Led (b ∷ bs) ns

before_led : (n : ℕ) {bs ns : List ℕ} → n ≤ 65535 → Led bs ns → Text (decimal_of n ++ bs) (n ∷ ns)
before_led n h (led s t) = next nil (decimal_numeral n) h s t

spaced_led : (ns : List ℕ) → ((i : ℕ) → get_or ns i 0 ≤ 65535) → Led (spaced ns ++ 10 ∷ []) ns
unfolding spaced
spaced_led [] f = led line_feed (empty nil)
spaced_led (n ∷ ns) f =
    let t : Text ((decimal_of n ++ spaced ns) ++ 10 ∷ []) (n ∷ ns) = rw append_assoc (before_led n (f 0) (spaced_led ns (λ i. f (suc i)))) in
    led blank t

-- what is printed behind a word is a text with those numbers in the form of an input
pub spaced_text : (ns : List ℕ) → ((i : ℕ) → get_or ns i 0 ≤ 65535) → Text (spaced ns ++ 10 ∷ []) ns
spaced_text ns f = of_led (spaced_led ns f)
  where
    of_led : {bs ms : List ℕ} → Led bs ms → Text bs ms
    of_led (led s t) = led_text s t
