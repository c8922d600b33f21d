-- What is written of a row that begins at a place of a slice. Only private functions cite this.
use Rattle.std.specs.Prelude.{ℕ, ◌+◌, ◌*◌, List, ◌++◌, get_or}
use Rattle.sets.specs.Lists.{each}
use Rattle.pages.specs.Pages.{blanks, page_line, aligned, row_lines, cells_on, opening}

-- n cells from a place on, 0 past the end
unfoldable pub cells_from : List ℕ → ℕ → ℕ → List ℕ
cells_from t from n = each n (λ k. aligned 6 (get_or t (from + k) 0))

-- line i of the row of state q: its opening and n cells
unfoldable pub line_from : List ℕ → ℕ → ℕ → ℕ → ℕ → List ℕ
line_from t q i from n = page_line (opening q i ++ (cells_from t from n ++ blanks 2))

-- the row of state q with w cells
unfoldable pub row_from : List ℕ → ℕ → ℕ → ℕ → List ℕ
row_from t q from w = each (row_lines w) (λ i. line_from t q i (from + 11 * i) (cells_on w i))
