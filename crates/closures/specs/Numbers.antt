-- Items are numbered production after production and dot after dot, the added production last: the item of production r with its dot behind
-- d symbols is number `first_of c r + d`. "Two rules alike in content are still two, each with items of its own."
use Rattle.std.specs.Prelude.{cond, List, ℕ, zero, suc, ◌+◌, ◌-◌, eqb, ltb}
use Rattle.grammar.specs.Card.{terminals, productions, length_of, symbol_of, start_of}

-- the number of the first item of production r; production P is the added one
unfoldable pub first_of : List ℕ → ℕ → ℕ
first_of c r = start_of c r + r

-- the symbol after the dot of item i, where i is an item of a production below n
unfoldable pub after_in : List ℕ → ℕ → ℕ → ℕ
after_in c zero i = 0
after_in c (suc r) i =
    cond (ltb i (first_of c r)) (after_in c r i)
    (cond (ltb (i - first_of c r) (length_of c r)) (symbol_of c (start_of c r + (i - first_of c r))) 0)

-- the symbol after the dot of item i; 0, which stands in no right side, where there is none
unfoldable pub after_of : List ℕ → ℕ → ℕ
after_of c i =
    cond (ltb i (first_of c (productions c))) (after_in c (productions c) i)
    (cond (eqb i (first_of c (productions c))) (terminals c) 0)
