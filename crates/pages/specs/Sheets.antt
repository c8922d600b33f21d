-- A text in pages, by its lines alone: "A page is 72 columns wide and 60 lines long .. Each line ends in one line feed beyond the 72 columns".
-- So n pages are 60 * n lines.
use Rattle.std.specs.Prelude.{ℕ, suc, ◌≡◌, ◌≢◌, List, [], ◌∷◌, ◌++◌, length, get_or}

-- no byte is a line feed; a place past the end reads 0
abbrev pub NoFeed : List ℕ → Type 0
NoFeed l = (i : ℕ) → get_or l i 0 ≢ 10

-- a text of so many lines: none; or 72 columns, a line feed and the other lines
pub data Lines : ℕ → List ℕ → Type 0 where
  nil : Lines 0 []
  cons : {n : ℕ} (l : List ℕ) {rest : List ℕ} → length l ≡ 72 → NoFeed l → Lines n rest → Lines (suc n) (l ++ 10 ∷ rest)
