-- Reading the pages: what stands in the columns of a line.
use Rattle.std.specs.Prelude.{ℕ, suc, ◌+◌, ◌*◌, ◌/◌, ◌%◌, ◌<◌, ◌≡◌, List, [], ◌∷◌, take, drop}
use Rattle.listing.specs.Numbers.{numbers_in}
use Rattle.pages.specs.Pages.{row_lines}

-- line i, counted from 0 over all pages: 72 columns; each line has a line feed behind it
abbrev pub line_on : List ℕ → ℕ → List ℕ
line_on pages i = take 72 (drop (73 * i) pages)

-- the numbers in k columns of a line, from column a on
abbrev pub numbers_at : ℕ → ℕ → List ℕ → List ℕ
numbers_at a k line = numbers_in (take k (drop a line))

-- the state that line i opens with; none where it is left blank
abbrev pub state_on : List ℕ → ℕ → List ℕ
state_on pages i = numbers_at 0 4 (line_on pages i)

-- cell k of line i, counted from 0; none where there is no such cell
abbrev pub cell_on : List ℕ → ℕ → ℕ → List ℕ
cell_on pages i k = numbers_at (4 + 6 * k) 6 (line_on pages i)

-- the cell of state q and symbol x, found with the pages and w = T + N alone
abbrev pub cell_back : List ℕ → ℕ → ℕ → ℕ → List ℕ
cell_back pages w q x = cell_on pages (q * row_lines w + x / 11) (x % 11)

-- the same by looking, with the pages, q and x alone: some line opens with q, the x / 11 lines behind it open with no state, and
-- on the last of these lines (where x < 11 on the first itself) cell x % 11 is v
pub record Found (pages : List ℕ) (q x v : ℕ) : Type 0 where
  pub line : ℕ
  pub opens : state_on pages line ≡ q ∷ []
  pub further : (i : ℕ) → i < x / 11 → state_on pages (line + suc i) ≡ []
  pub cell : cell_on pages (line + x / 11) (x % 11) ≡ v ∷ []
