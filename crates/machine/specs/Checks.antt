-- "The reader refuses": 21 to 24 and 44 for the table, 25 and 26 for the input, 27 and 45 for the stack areas, in this order; and 50 for a word of closed terminals.
use Rattle.std.specs.Prelude.{ℕ, ◌-◌, ◌^◌, List, Bool, true, false, not, cond, ◌&&◌, length, get_or, ltb, leb, eqb}
use Rattle.sets.specs.Bit.{bit}
use Rattle.sets.specs.Tests.{all_below, between, unless, first_refusal}
use Rattle.tables.specs.Layout.{states, terminals, nonterminals, productions, width, left_of, length_of, entered_of, accept, cell_of, size_of}

-- 22: the limits of the paper, and Q at least 1
unfoldable pub sizes_ok : List ℕ → Bool
sizes_ok t = between 1 256 (states t) && (between 1 64 (terminals t) && (between 1 60 (nonterminals t) && between 1 128 (productions t)))

-- 23: the left side of production r is a nonterminal, and its length is at most 512
unfoldable pub production_ok : List ℕ → ℕ → Bool
production_ok t r = leb (terminals t) (left_of t r) && ltb (left_of t r) (width t) && leb (length_of t r) 512

-- 24: the values of a terminal's column: 0, a shift but not in column 0, accept in column 0 alone, a reduction
unfoldable pub terminal_cell_ok : List ℕ → ℕ → ℕ → Bool
terminal_cell_ok t x v =
    cond (eqb v 0) true
    (cond (ltb v (states t)) (not (eqb x 0))
    (cond (eqb v accept) (eqb x 0)
    (cond (ltb v 1024) false (ltb (v - 1024) (productions t)))))

-- a nonterminal's column has a state, or 0
unfoldable pub cell_ok : List ℕ → ℕ → ℕ → Bool
cell_ok t x v = cond (ltb x (terminals t)) (terminal_cell_ok t x v) (ltb v (states t))

unfoldable pub row_ok : List ℕ → ℕ → Bool
row_ok t q = all_below (width t) (λ x. cell_ok t x (cell_of t q x))

unfoldable pub productions_ok : List ℕ → Bool
productions_ok t = all_below (productions t) (production_ok t)

unfoldable pub cells_ok : List ℕ → Bool
cells_ok t = all_below (states t) (row_ok t)

-- 44: "an entry at least T+N, or not 0 for state 0, or differing from the column of a cell that names the state".
-- The entry of state q is below T+N
unfoldable pub entry_ok : List ℕ → ℕ → Bool
entry_ok t q = ltb (entered_of t q) (width t)

-- a cell v of 1 to Q−1 names state v; then the entry of v is the cell's column x. Other cells name none
unfoldable pub names_ok : List ℕ → ℕ → ℕ → Bool
names_ok t x v = cond (ltb 0 v && ltb v (states t)) (eqb (entered_of t v) x) true

-- so for each cell of row q
unfoldable pub row_names_ok : List ℕ → ℕ → Bool
row_names_ok t q = all_below (width t) (λ x. names_ok t x (cell_of t q x))

-- none of the three
unfoldable pub entries_ok : List ℕ → Bool
entries_ok t = all_below (states t) (entry_ok t) && (eqb (entered_of t 0) 0 && all_below (states t) (row_names_ok t))

-- 26: a terminal of the input is neither 0 nor at least T
unfoldable pub terminal_ok : List ℕ → ℕ → Bool
terminal_ok t b = ltb 0 b && ltb b (terminals t)

unfoldable pub input_ok : List ℕ → List ℕ → Bool
input_ok t l = all_below (length l) (λ i. terminal_ok t (get_or l i 0))

-- the number of the first refusal that applies, or 0: of the table, of the input, of a stack area of n places and a second one of k, and of all
unfoldable pub table_refusal : List ℕ → ℕ
table_refusal t =
    unless (leb 4 (length t)) 21
    (unless (sizes_ok t) 22
    (unless (leb (size_of t) (length t)) 21
    (unless (productions_ok t) 23
    (unless (cells_ok t) 24
    (unless (entries_ok t) 44 0)))))

unfoldable pub input_refusal : List ℕ → List ℕ → ℕ
input_refusal t l = unless (leb (length l) 65535) 25 (unless (input_ok t l) 26 0)

-- "45 the second area is shorter than the first, after 27"; the two never both apply
unfoldable pub area_refusal : ℕ → ℕ → ℕ
area_refusal n k = unless (ltb 0 n) 27 (unless (leb n k) 45 0)

unfoldable pub refusal_of : List ℕ → List ℕ → ℕ → ℕ → ℕ
refusal_of t l n k = first_refusal (table_refusal t) (first_refusal (input_refusal t l) (area_refusal n k))

-- card 10: "50 the word has bit 0 or a bit at or above T"; a word without such bits is less than 2 to the power of T, `closed_passed` of proofs/RefusalLaws.antt
unfoldable pub closed_ok : List ℕ → ℕ → Bool
closed_ok t closed = not (bit closed 0) && ltb closed (2 ^ terminals t)

-- "after 45"
unfoldable pub restricted_refusal : List ℕ → ℕ → List ℕ → ℕ → ℕ → ℕ
restricted_refusal t closed l n k = first_refusal (refusal_of t l n k) (unless (closed_ok t closed) 50 0)

-- the numbers of the refusals: just these come, by proofs/RefusalLaws.antt
pub data TableRefusal : ℕ → Type 0 where
  table_short : TableRefusal 21
  sizes_wrong : TableRefusal 22
  production_wrong : TableRefusal 23
  cell_wrong : TableRefusal 24
  entry_wrong : TableRefusal 44

pub data Refusal : ℕ → Type 0 where
  of_table : {n : ℕ} → TableRefusal n → Refusal n
  input_long : Refusal 25
  terminal_wrong : Refusal 26
  no_stack : Refusal 27
  second_short : Refusal 45

pub data RestrictedRefusal : ℕ → Type 0 where
  as_ever : {n : ℕ} → Refusal n → RestrictedRefusal n
  closed_wrong : RestrictedRefusal 50
