-- What is printed, byte for byte. Bytes are ASCII: 32 is a blank, 10 a line feed, 58 a colon.
use Rattle.std.specs.Prelude.{ℕ, List, [], ◌∷◌, ◌++◌}
use Rattle.sets.specs.Lists.{each}
use Rattle.tables.specs.Layout.{states, terminals, nonterminals, productions, width, left_of, length_of, entered_of, cell_of}
use Rattle.decimal.specs.Digits.{decimal_of}

-- `table`, `left`, `length`, `entered`, `row` and a blank, a blank and a colon, `refused`
abbrev pub table_word : List ℕ
table_word = 116 ∷ 97 ∷ 98 ∷ 108 ∷ 101 ∷ []

abbrev pub left_word : List ℕ
left_word = 108 ∷ 101 ∷ 102 ∷ 116 ∷ []

abbrev pub length_word : List ℕ
length_word = 108 ∷ 101 ∷ 110 ∷ 103 ∷ 116 ∷ 104 ∷ []

abbrev pub entered_word : List ℕ
entered_word = 101 ∷ 110 ∷ 116 ∷ 101 ∷ 114 ∷ 101 ∷ 100 ∷ []

abbrev pub row_word : List ℕ
row_word = 114 ∷ 111 ∷ 119 ∷ 32 ∷ []

abbrev pub colon_word : List ℕ
colon_word = 32 ∷ 58 ∷ []

abbrev pub refused_word : List ℕ
refused_word = 114 ∷ 101 ∷ 102 ∷ 117 ∷ 115 ∷ 101 ∷ 100 ∷ []

-- the line `not a card`
abbrev pub not_a_card : List ℕ
not_a_card = 110 ∷ 111 ∷ 116 ∷ 32 ∷ 97 ∷ 32 ∷ 99 ∷ 97 ∷ 114 ∷ 100 ∷ 10 ∷ []

-- numbers, each behind a blank
unfoldable pub spaced : List ℕ → List ℕ
spaced [] = []
spaced (n ∷ ns) = 32 ∷ decimal_of n ++ spaced ns

-- a line: a word, numbers, a line feed
unfoldable pub line_of : List ℕ → List ℕ → List ℕ
line_of w ns = w ++ (spaced ns ++ 10 ∷ [])

-- the line of state q with its cells
unfoldable pub row_of : ℕ → List ℕ → List ℕ
row_of q ns = row_word ++ (decimal_of q ++ (colon_word ++ (spaced ns ++ 10 ∷ [])))

-- a table: its sizes, left sides, lengths, entering symbols and rows.
-- "`maketable` prints a line `entered` and those numbers after `length`"
unfoldable pub table_text : List ℕ → List ℕ
table_text t =
    line_of table_word (states t ∷ terminals t ∷ nonterminals t ∷ productions t ∷ [])
    ++ (line_of left_word (each (productions t) (λ r. left_of t r ∷ []))
    ++ (line_of length_word (each (productions t) (λ r. length_of t r ∷ []))
    ++ (line_of entered_word (each (states t) (λ q. entered_of t q ∷ []))
    ++ each (states t) (λ q. row_of q (each (width t) (λ x. cell_of t q x ∷ []))))))

-- a refusal: its number and its values
unfoldable pub refusal_text : List ℕ → List ℕ
refusal_text ns = line_of refused_word ns

-- so many bytes hold the text of every table within the limits
abbrev pub text_size : ℕ
text_size = 196658
