-- The maker's working rows: one behind the other, 256 of them within the table area, and as many places below the table's as there are states.
use Prim.Native.Nat.{ℕ, ◌+◌, ◌*◌, ◌≤◌, ◌<◌}
use mathlib.Core.Path.{◌≡◌, refl}
use mathlib.Core.List.{List}
use native.Mathlib.Nat.{suc-mul, mul-le-mul}
use native.Mathlib.Numerals.{add-one}
use native.Mathlib.Omega.{arith}
use Rattle.grammar.specs.Card.{terminals, nonterminals, productions}
use Rattle.grammar.proofs.CardLaws.{WellFormed}
use Rattle.tables.specs.Layout.{header_size, row_at}
use Rattle.tables.proofs.Places.{row_within}
use Rattle.areas.specs.Areas.{table_size, row_of}

-- the place by numbers that stand for the card's
pub row_is : (c : List ℕ) (q : ℕ) {t n h : ℕ} → t ≡ terminals c → n ≡ nonterminals c → h ≡ header_size (productions c) → h + q * (t + n) ≡ row_of c q
unfolding row_of
row_is c q et en eh = rw (et, en, eh) refl

-- a table of n states has its rows n places further up
pub row_table : (c : List ℕ) (n q : ℕ) → row_at (productions c) n (terminals c + nonterminals c) q ≡ row_of c q + n
unfolding row_of
row_table c n q = omega arith

pub row_header : (c : List ℕ) (q : ℕ) → header_size (productions c) ≤ row_of c q
unfolding row_of
row_header c q = omega arith

pub row_next : (c : List ℕ) (q : ℕ) → row_of c (q + 1) ≡ row_of c q + (terminals c + nonterminals c)
unfolding row_of
row_next c q = rw (add-one, suc-mul q (terminals c + nonterminals c)) (omega arith)

pub row_mono : (c : List ℕ) (p q : ℕ) → p < q → row_of c p + (terminals c + nonterminals c) ≤ row_of c q
unfolding row_of
row_mono c p q h = let e = row_within (terminals c + nonterminals c) p q h in omega arith

-- the limits of a card: at most 128 productions and 124 symbols
pub row_most : (c : List ℕ) → WellFormed c → (q n : ℕ) → q ≤ n → row_of c q ≤ header_size 128 + n * 124
unfolding row_of
row_most c f q n h =
    let w : terminals c + nonterminals c ≤ 124 = omega (arith, f.limits.terminals_to, f.limits.nonterminals_to) in
    let m : q * (terminals c + nonterminals c) ≤ n * 124 = mul-le-mul h w in
    omega (arith, f.limits.productions_to)

pub row_fits : (c : List ℕ) → WellFormed c → (q : ℕ) → q < 256 → row_of c q + (terminals c + nonterminals c) ≤ table_size
row_fits c f q h = let e = row_mono c q 256 h in let m = row_most c f 256 256 (omega arith) in omega arith

pub row_small : (c : List ℕ) → WellFormed c → (q : ℕ) → q ≤ 256 → row_of c q ≤ table_size
row_small c f q h = let m = row_most c f q 256 h in omega arith

-- with as many entering symbols as rows in front of them
pub rows_fit : (c : List ℕ) → WellFormed c → (n : ℕ) → n ≤ 256 → row_of c n + n ≤ table_size
rows_fit c f n h = let m = row_most c f n 256 h in omega arith
