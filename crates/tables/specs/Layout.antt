-- The layout of a parse table: the sizes Q, T, N, P; two arrays of P numbers, left sides and lengths; the entering symbols of the Q states; then Q rows of T + N cells.
-- Every place of a table is named here; crate tables has the places in code. A place past the end reads 0.
use Rattle.std.specs.Prelude.{ℕ, ◌+◌, ◌*◌, List, [], ◌∷◌, ◌++◌, get_or}
use Rattle.sets.specs.Lists.{each}

-- the sizes: Q states, T terminals (the paper's marks), N nonterminals (names), P productions (rules)
unfoldable pub states : List ℕ → ℕ
states t = get_or t 0 0

unfoldable pub terminals : List ℕ → ℕ
terminals t = get_or t 1 0

unfoldable pub nonterminals : List ℕ → ℕ
nonterminals t = get_or t 2 0

unfoldable pub productions : List ℕ → ℕ
productions t = get_or t 3 0

-- the cells of a row: one for each symbol
unfoldable pub width : List ℕ → ℕ
width t = terminals t + nonterminals t

-- the places of a table of p productions and n states: the left side of production r, the length of its right side, the end of the header,
-- the entering symbol of state q, and the first cell. The header is the sizes and both arrays of productions
abbrev pub left_at : ℕ → ℕ
left_at r = 4 + r

abbrev pub length_at : ℕ → ℕ → ℕ
length_at p r = 4 + p + r

abbrev pub header_size : ℕ → ℕ
header_size p = 4 + 2 * p

-- "The table gains Q numbers between the lengths and the cells: the entering symbol of each state"
abbrev pub entered_at : ℕ → ℕ → ℕ
entered_at p q = header_size p + q

abbrev pub cells_at : ℕ → ℕ → ℕ
cells_at p n = entered_at p n

-- the left side of production r
unfoldable pub left_of : List ℕ → ℕ → ℕ
left_of t r = get_or t (left_at r) 0

-- the length of the right side of production r
unfoldable pub length_of : List ℕ → ℕ → ℕ
length_of t r = get_or t (length_at (productions t) r) 0

-- the entry of state q: in the maker's tables the symbol under which it is entered
unfoldable pub entered_of : List ℕ → ℕ → ℕ
entered_of t q = get_or t (entered_at (productions t) q) 0

-- the values of a terminal's cell: "0 is wrong, 1 to Q−1 shifts to that state, 1,024+r reduces by rule r, 4,096 accepts"
abbrev pub reduction : ℕ → ℕ
reduction r = 1024 + r

abbrev pub accept : ℕ
accept = 4096

-- where the row of state q begins in a table of p productions and n states with rows of w cells
abbrev pub row_at : ℕ → ℕ → ℕ → ℕ → ℕ
row_at p n w q = cells_at p n + q * w

-- the cell of state q and symbol x
unfoldable pub cell_of : List ℕ → ℕ → ℕ → ℕ
cell_of t q x = get_or t (row_at (productions t) (states t) (width t) q + x) 0

-- how many numbers the sizes ask for: up to the end of the last row
unfoldable pub size_of : List ℕ → ℕ
size_of t = row_at (productions t) (states t) (width t) (states t)

-- the table with these sizes, left sides, lengths, entering symbols and cells
unfoldable pub build : ℕ → ℕ → ℕ → ℕ → (ℕ → ℕ) → (ℕ → ℕ) → (ℕ → ℕ) → (ℕ → ℕ → ℕ) → List ℕ
build q t n p left length entered cell =
    q ∷ t ∷ n ∷ p
    ∷ (each p (λ r. left r ∷ []) ++ (each p (λ r. length r ∷ []) ++ (each q (λ s. entered s ∷ []) ++ each q (λ s. each (t + n) (λ x. cell s x ∷ [])))))
