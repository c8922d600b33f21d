-- A table on pages, byte for byte. Bytes are ASCII: 32 is a blank, 10 a line feed.
use Rattle.std.specs.Prelude.{ℕ, zero, suc, ◌+◌, ◌-◌, ◌*◌, ◌/◌, min, List, [], ◌∷◌, ◌++◌, length, replicate}
use Rattle.sets.specs.Lists.{each}
use Rattle.tables.specs.Layout.{states, width, cell_of}
use Rattle.decimal.specs.Digits.{decimal_of}

-- so many blanks
abbrev pub blanks : ℕ → List ℕ
blanks n = replicate n 32

-- a line: "72 columns wide .. padded with blanks", and "one line feed beyond the 72 columns"
unfoldable pub page_line : List ℕ → List ℕ
page_line text = text ++ (blanks (72 - length text) ++ 10 ∷ [])

-- a number in k columns, right-aligned
unfoldable pub aligned : ℕ → ℕ → List ℕ
aligned k n = blanks (k - length (decimal_of n)) ++ decimal_of n

-- the lines of a row of w cells, as few as hold them; and how many of the cells stand on line i of them: "up to 11"
abbrev pub row_lines : ℕ → ℕ
row_lines w = (w + 10) / 11

abbrev pub cells_on : ℕ → ℕ → ℕ
cells_on w i = min 11 (w - 11 * i)

-- "A line opens with the state in 4 columns"; "A row goes on to further lines with the state left blank"
unfoldable pub opening : ℕ → ℕ → List ℕ
opening q zero = aligned 4 q
opening q (suc i) = blanks 4

-- the cells on line i of the row of state q: "6 columns each"
abbrev pub cells_text : List ℕ → ℕ → ℕ → List ℕ
cells_text t q i = each (cells_on (width t) i) (λ k. aligned 6 (cell_of t q (11 * i + k)))

-- the line: "the state in 4 columns, then up to 11 cells .., all right-aligned, then 2 blanks"
unfoldable pub row_line : List ℕ → ℕ → ℕ → List ℕ
row_line t q i = page_line (opening q i ++ (cells_text t q i ++ blanks 2))

-- the row of state q, and the rows of all states
abbrev pub row_text : List ℕ → ℕ → List ℕ
row_text t q = each (row_lines (width t)) (λ i. row_line t q i)

unfoldable pub rows_text : List ℕ → List ℕ
rows_text t = each (states t) (λ q. row_text t q)

-- the blank lines behind n lines: a page is "60 lines long", "The last page is filled with blank lines", and a full one has none behind it
abbrev pub fill_lines : ℕ → ℕ
fill_lines n = 60 * ((n + 59) / 60) - n

-- the pages of a table: the rows, and blank lines behind them
unfoldable pub pages_text : List ℕ → List ℕ
pages_text t = rows_text t ++ each (fill_lines (states t * row_lines (width t))) (λ i. page_line [])

-- so many bytes hold the pages of every table within the limits: 52 pages
abbrev pub pages_size : ℕ
pages_size = 227760
