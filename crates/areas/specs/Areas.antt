-- The areas that the maker is lent: their lengths, and where its rows stand.
use Rattle.std.specs.Prelude.{ℕ, ◌+◌, ◌*◌, List}
use Rattle.grammar.specs.Card.{terminals, nonterminals, productions}
use Rattle.tables.specs.Layout.{header_size}

-- "The table area becomes 32,260 numbers in refusal 1 and in what is zeroed"
abbrev pub table_size : ℕ
table_size = 32260

-- "and two work areas (8,192 numbers of 64 bits, 16,384 of 32 bits)"
abbrev pub words_size : ℕ
words_size = 8192

abbrev pub halves_size : ℕ
halves_size = 16384

-- the maker's working rows: where the row of state q of the card c begins in the table area, behind room for the header.
-- While rows are made the number of states is not known; the table has its rows that many places further up (`row_table` of proofs/RowLaws.antt)
unfoldable pub row_of : List ℕ → ℕ → ℕ
row_of c q = header_size (productions c) + q * (terminals c + nonterminals c)
