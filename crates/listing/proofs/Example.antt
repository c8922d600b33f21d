-- The text of the table of card A, in full, and of a refusal.
use mathlib.Core.Path.{◌≡◌, refl}
use mathlib.Core.List.{List, [], ◌∷◌, ◌++◌}
use Prim.Native.Nat.{ℕ}
use Rattle.decimal.specs.Digits.{digits_by, decimal_of}
use Rattle.tables.specs.Layout.{states, terminals, nonterminals, productions, width, left_of, length_of, entered_of, cell_of}
use Rattle.listing.specs.Listing.{spaced, line_of, row_of, table_text, refusal_text}

abbrev pub table_A : List ℕ
table_A = 4 ∷ 3 ∷ 1 ∷ 2 ∷ 3 ∷ 3 ∷ 2 ∷ 1 ∷ 0 ∷ 2 ∷ 3 ∷ 1 ∷ 0 ∷ 0 ∷ 1 ∷ 2 ∷ 1025 ∷ 1025 ∷ 0 ∷ 0 ∷ 4096 ∷ 3 ∷ 0 ∷ 0 ∷ 1024 ∷ 1024 ∷ 0 ∷ 0 ∷ []

-- table 4 3 1 2
abbrev line_0 : List ℕ
line_0 = 116 ∷ 97 ∷ 98 ∷ 108 ∷ 101 ∷ 32 ∷ 52 ∷ 32 ∷ 51 ∷ 32 ∷ 49 ∷ 32 ∷ 50 ∷ 10 ∷ []

-- left 3 3
abbrev line_1 : List ℕ
line_1 = 108 ∷ 101 ∷ 102 ∷ 116 ∷ 32 ∷ 51 ∷ 32 ∷ 51 ∷ 10 ∷ []

-- length 2 1
abbrev line_2 : List ℕ
line_2 = 108 ∷ 101 ∷ 110 ∷ 103 ∷ 116 ∷ 104 ∷ 32 ∷ 50 ∷ 32 ∷ 49 ∷ 10 ∷ []

-- entered 0 2 3 1
abbrev line_3 : List ℕ
line_3 = 101 ∷ 110 ∷ 116 ∷ 101 ∷ 114 ∷ 101 ∷ 100 ∷ 32 ∷ 48 ∷ 32 ∷ 50 ∷ 32 ∷ 51 ∷ 32 ∷ 49 ∷ 10 ∷ []

-- row 0 : 0 0 1 2
abbrev line_4 : List ℕ
line_4 = 114 ∷ 111 ∷ 119 ∷ 32 ∷ 48 ∷ 32 ∷ 58 ∷ 32 ∷ 48 ∷ 32 ∷ 48 ∷ 32 ∷ 49 ∷ 32 ∷ 50 ∷ 10 ∷ []

-- row 1 : 1025 1025 0 0
abbrev line_5 : List ℕ
line_5 = 114 ∷ 111 ∷ 119 ∷ 32 ∷ 49 ∷ 32 ∷ 58 ∷ 32 ∷ 49 ∷ 48 ∷ 50 ∷ 53 ∷ 32 ∷ 49 ∷ 48 ∷ 50 ∷ 53 ∷ 32 ∷ 48 ∷ 32 ∷ 48 ∷ 10 ∷ []

-- row 2 : 4096 3 0 0
abbrev line_6 : List ℕ
line_6 = 114 ∷ 111 ∷ 119 ∷ 32 ∷ 50 ∷ 32 ∷ 58 ∷ 32 ∷ 52 ∷ 48 ∷ 57 ∷ 54 ∷ 32 ∷ 51 ∷ 32 ∷ 48 ∷ 32 ∷ 48 ∷ 10 ∷ []

-- row 3 : 1024 1024 0 0
abbrev line_7 : List ℕ
line_7 = 114 ∷ 111 ∷ 119 ∷ 32 ∷ 51 ∷ 32 ∷ 58 ∷ 32 ∷ 49 ∷ 48 ∷ 50 ∷ 52 ∷ 32 ∷ 49 ∷ 48 ∷ 50 ∷ 52 ∷ 32 ∷ 48 ∷ 32 ∷ 48 ∷ 10 ∷ []

abbrev pub text_A : List ℕ
text_A = line_0 ++ line_1 ++ line_2 ++ line_3 ++ line_4 ++ line_5 ++ line_6 ++ line_7

pub table_A_text : table_text table_A ≡ text_A
unfolding digits_by decimal_of spaced line_of row_of states terminals nonterminals productions width left_of length_of entered_of cell_of table_text
table_A_text = refl

-- refused 13 3 1 1 1024
refusal_text_is : refusal_text (13 ∷ 3 ∷ 1 ∷ 1 ∷ 1024 ∷ []) ≡ 114 ∷ 101 ∷ 102 ∷ 117 ∷ 115 ∷ 101 ∷ 100 ∷ 32 ∷ 49 ∷ 51 ∷ 32 ∷ 51 ∷ 32 ∷ 49 ∷ 32 ∷ 49 ∷ 32 ∷ 49 ∷ 48 ∷ 50 ∷ 52 ∷ 10 ∷ []
unfolding digits_by decimal_of spaced line_of refusal_text
refusal_text_is = refl
