-- How long a text can be.
use mathlib.Core.Path.{◌≡◌, refl, ap}
use mathlib.Core.List.{List, [], ◌∷◌}
use Prim.Native.Nat.{ℕ, zero, suc, ◌+◌, ◌*◌, ◌<◌, ◌≤◌}
use native.Mathlib.Omega.{arith}
use lib.ListN.{length, get_or, length-append}
use Rattle.decimal.specs.Digits.{decimal_of}
use Rattle.decimal.proofs.Decimal.{decimal_length}
use Rattle.tables.specs.Layout.{states, productions, width, left_at, header_size}
use Rattle.listing.specs.Listing.{spaced, line_of, row_of, table_text, table_word, left_word, length_word, entered_word, refusal_text, text_size}
use Rattle.listing.specs.Parts.{part, arrays_of, row_from, rows_of}
use Rattle.listing.proofs.Parts.{table_parts_is}

-- all numbers are of 16 bits
abbrev pub Small : List ℕ → Type 0
Small t = (i : ℕ) → get_or t i 0 < 65536

digits_room : (n : ℕ) → n < 65536 → length (decimal_of n) ≤ 5
digits_room n h = decimal_length 4 n (omega arith)

spaced_room : (ns : List ℕ) → Small ns → length (spaced ns) ≤ 6 * length ns
unfolding spaced
spaced_room [] f = omega arith
spaced_room (n ∷ ns) f =
    let h : length (decimal_of n) ≤ 5 = digits_room n (f 0) in
    let i : length (spaced ns) ≤ 6 * length ns = spaced_room ns (λ k. f (suc k)) in
    simp length-append (omega arith)

part_length : (t : List ℕ) (i n : ℕ) → length (part t i n) ≡ n
unfolding part
part_length t i zero = refl
part_length t i (suc n) = ap suc (part_length t (i + 1) n)

part_small : (t : List ℕ) (i n : ℕ) → Small t → Small (part t i n)
unfolding part
part_small t i zero f k = omega arith
part_small t i (suc n) f zero = f i
part_small t i (suc n) f (suc k) = part_small t (i + 1) n f k

line_room : (w t : List ℕ) (i n : ℕ) → Small t → length (line_of w (part t i n)) ≤ length w + 6 * n + 1
unfolding line_of
line_room w t i n f =
    let h : length (spaced (part t i n)) ≤ 6 * n = rw (part_length t i n) at (spaced_room (part t i n) (part_small t i n f)) in
    simp length-append (omega arith)

row_room : (t : List ℕ) (q i n : ℕ) → Small t → q < 65536 → length (row_of q (part t i n)) ≤ 12 + 6 * n
unfolding row_of
row_room t q i n f l =
    let h : length (spaced (part t i n)) ≤ 6 * n = rw (part_length t i n) at (spaced_room (part t i n) (part_small t i n f)) in
    let g : length (decimal_of q) ≤ 5 = digits_room q l in
    simp length-append (omega arith)

rows_room : (t : List ℕ) (q n : ℕ) → Small t → width t ≤ 124 → q + n ≤ 65536 → length (rows_of t q n) ≤ n * 756
unfolding rows_of
rows_room t q zero f l m = omega arith
rows_room t q (suc n) f l m =
    let h : length (row_of q (part t (row_from t q) (width t))) ≤ 12 + 6 * width t = row_room t q (row_from t q) (width t) f (omega arith) in
    let i : length (rows_of t (q + 1) n) ≤ n * 756 = rows_room t (q + 1) n f l (omega arith) in
    simp length-append (omega arith)

arrays_room : (t : List ℕ) → Small t → length (arrays_of t) ≤ 20 + 12 * productions t + 6 * states t
unfolding arrays_of
arrays_room t f =
    let a : length (line_of left_word (part t (left_at 0) (productions t))) ≤ 4 + 6 * productions t + 1 = line_room left_word t (left_at 0) (productions t) f in
    let b : length (line_of length_word (part t (left_at (productions t)) (productions t))) ≤ 6 + 6 * productions t + 1 = line_room length_word t (left_at (productions t)) (productions t) f in
    let c : length (line_of entered_word (part t (header_size (productions t)) (states t))) ≤ 7 + 6 * states t + 1 = line_room entered_word t (header_size (productions t)) (states t) f in
    simp length-append (omega arith)

-- the text of a table within the limits
pub table_room : (t : List ℕ) → Small t → states t ≤ 256 → width t ≤ 124 → productions t ≤ 128 → length (table_text t) ≤ text_size
table_room t f q c p =
    let a : length (line_of table_word (part t 0 (left_at 0))) ≤ 30 = line_room table_word t 0 (left_at 0) f in
    let b : length (arrays_of t) ≤ 20 + 12 * productions t + 6 * states t = arrays_room t f in
    let d : length (rows_of t 0 (states t)) ≤ states t * 756 = rows_room t 0 (states t) f c (omega arith) in
    rw (table_parts_is t) (simp length-append (omega arith))

-- and of a refusal with up to five numbers
pub refusal_room : (ns : List ℕ) → Small ns → length ns ≤ 5 → length (refusal_text ns) ≤ 38
unfolding refusal_text line_of
refusal_room ns f h = let i : length (spaced ns) ≤ 6 * length ns = spaced_room ns f in simp length-append (omega arith)
