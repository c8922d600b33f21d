-- What is written of a slice from a place on. Only private functions cite this.
use Rattle.std.specs.Prelude.{ℕ, zero, suc, ◌+◌, List, [], ◌∷◌, ◌++◌, get_or}
use Rattle.tables.specs.Layout.{states, productions, width, left_at, header_size, row_at}
use Rattle.listing.specs.Listing.{line_of, row_of, left_word, length_word, entered_word}

-- n numbers, 0 past the end
unfoldable pub part : List ℕ → ℕ → ℕ → List ℕ
part t i zero = []
part t i (suc n) = get_or t i 0 ∷ part t (i + 1) n

-- the lines of the left sides, the lengths and the entering symbols; each array begins where the one before it ends
unfoldable pub arrays_of : List ℕ → List ℕ
arrays_of t =
    line_of left_word (part t (left_at 0) (productions t))
    ++ (line_of length_word (part t (left_at (productions t)) (productions t))
    ++ line_of entered_word (part t (header_size (productions t)) (states t)))

-- the place of a row in a table
abbrev pub row_from : List ℕ → ℕ → ℕ
row_from t q = row_at (productions t) (states t) (width t) q

-- n rows from state q on
unfoldable pub rows_of : List ℕ → ℕ → ℕ → List ℕ
rows_of t q zero = []
rows_of t q (suc n) = row_of q (part t (row_from t q) (width t)) ++ rows_of t (q + 1) n
