-- The grammar card: what stands where, the grammar that it means, and the refusals 4 to 9.
-- "Sizes first: T (marks), N (names), P (rules), L (symbols in all right sides). Then two parallel arrays of P numbers:
-- the left side of each rule, and the length of its right side. Then the L symbols, rule after rule."
use Rattle.std.specs.Prelude.{ℕ, zero, suc, ◌+◌, ◌*◌, List, [], ◌∷◌, Bool, cond, ◌&&◌, length, get_or, ltb, leb, eqb}
use Rattle.sets.specs.Tests.{all_below, between, unless}
use Rattle.sets.specs.Lists.{each}
use Rattle.grammar.specs.Grammar.{Grammar}

-- T terminals (marks), N nonterminals (names), P productions (rules), L symbols in all right sides
unfoldable pub terminals : List ℕ → ℕ
terminals c = get_or c 0 0

unfoldable pub nonterminals : List ℕ → ℕ
nonterminals c = get_or c 1 0

unfoldable pub productions : List ℕ → ℕ
productions c = get_or c 2 0

unfoldable pub symbols : List ℕ → ℕ
symbols c = get_or c 3 0

-- the left side of production r, and the length of its right side
unfoldable pub left_of : List ℕ → ℕ → ℕ
left_of c r = get_or c (4 + r) 0

unfoldable pub length_of : List ℕ → ℕ → ℕ
length_of c r = get_or c (4 + productions c + r) 0

-- where the symbols of all right sides begin; the k-th of them, and where among them those of production r begin
abbrev pub symbols_at : List ℕ → ℕ
symbols_at c = 4 + 2 * productions c

unfoldable pub symbol_of : List ℕ → ℕ → ℕ
symbol_of c k = get_or c (symbols_at c + k) 0

unfoldable pub start_of : List ℕ → ℕ → ℕ
start_of c zero = 0
start_of c (suc r) = start_of c r + length_of c r

-- the right side of production r; production number P is the added one, "start' → start"
unfoldable pub right_of : List ℕ → ℕ → List ℕ
right_of c r = cond (ltb r (productions c)) (each (length_of c r) (λ d. symbol_of c (start_of c r + d) ∷ [])) (terminals c ∷ [])

-- the grammar of a card
abbrev pub grammar_of : List ℕ → Grammar
grammar_of c =
    record { terminals = terminals c; nonterminals = nonterminals c; productions = productions c; left = left_of c; right = right_of c }

-- ---- the refusals 4 to 9

-- "T 1 to 64, N 1 to 60, P 1 to 128, L 0 to 512"
unfoldable pub sizes_ok : List ℕ → Bool
sizes_ok c = between 1 64 (terminals c) && (between 1 60 (nonterminals c) && (between 1 128 (productions c) && leb (symbols c) 512))

-- "symbols T to T+N−1 are names"
unfoldable pub is_nonterminal : List ℕ → ℕ → Bool
is_nonterminal c x = leb (terminals c) x && ltb x (terminals c + nonterminals c)

-- a symbol of a right side is neither the end marker 0 nor at least T+N
unfoldable pub is_symbol : List ℕ → ℕ → Bool
is_symbol c x = ltb 0 x && ltb x (terminals c + nonterminals c)

unfoldable pub lefts_ok : List ℕ → Bool
lefts_ok c = all_below (productions c) (λ r. is_nonterminal c (left_of c r))

unfoldable pub rights_ok : List ℕ → Bool
rights_ok c = all_below (symbols c) (λ k. is_symbol c (symbol_of c k))

-- the first of the refusals 4 to 9 that applies, or 0; the lengths add up to start_of c P
unfoldable pub form_fault : List ℕ → ℕ
form_fault c =
    unless (leb 4 (length c)) 4
    (unless (sizes_ok c) 5
    (unless (eqb (length c) (symbols_at c + symbols c)) 6
    (unless (lefts_ok c) 7
    (unless (eqb (start_of c (productions c)) (symbols c)) 8
    (unless (rights_ok c) 9 0)))))
