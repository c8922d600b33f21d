-- Computed, and not to be believed: the answer is the one that Meaning.antt describes by `card_answer_is` of proofs/Main.antt, the table the definition's, and the only one, by `card_table` and `only_table`.
-- The answer to a card whose areas are long enough, and its table.
use Rattle.std.specs.Prelude.{true, false, cond, List, [], ◌∷◌, ℕ, zero, suc, ◌+◌, length, ltb}
use Rattle.grammar.specs.Grammar.{Grammar}
use Rattle.grammar.specs.Card.{terminals, nonterminals, productions, left_of, length_of, form_fault, grammar_of}
use Rattle.tables.specs.Layout.{build}
use Rattle.lr.specs.States.{nonterminal_transitions}
use Rattle.lalr.specs.Answer.{Answer, made, refused, useless_at, conflict}
use Rattle.lalr.specs.ComputedNonterminals.{useless_nonterminal}
use Rattle.lalr.specs.ComputedStates.{states, facts, actions, cell, goes, entering}

-- ---- 13: the first state and, in it, the first terminal where two actions meet, and the two lowest of them

abbrev pub or_else : Answer → Answer → Answer
or_else made b = b
or_else (refused n) b = refused n
or_else (useless_at n) b = useless_at n
or_else (conflict q a v w) b = conflict q a v w

-- of one cell, whose actions come ascending
abbrev pub meeting : ℕ → ℕ → List ℕ → Answer
meeting q a [] = made
meeting q a (v ∷ []) = made
meeting q a (v ∷ w ∷ ws) = conflict q a v w

-- of n terminals from a on
abbrev pub conflict_in : (ℕ → ℕ → List ℕ) → ℕ → ℕ → ℕ → Answer
conflict_in met q zero a = made
conflict_in met q (suc n) a = or_else (meeting q a (met q a)) (conflict_in met q n (suc a))

-- of n states from q on, with tm terminals
abbrev pub conflict_from : (ℕ → ℕ → List ℕ) → ℕ → ℕ → ℕ → Answer
conflict_from met tm zero q = made
conflict_from met tm (suc n) q = or_else (conflict_in met q tm 0) (conflict_from met tm n (suc q))

abbrev pub conflict_of : Grammar → List (List ℕ) → Answer
conflict_of g rows = let f = facts g rows in conflict_from (actions g rows f) (g.terminals) (length rows) 0

-- ---- the refusals in their order

-- 11 and 12, then 13
abbrev pub judge : Grammar → List (List ℕ) → Answer
judge g rows =
    elim (ltb 256 (length rows)) [
      | true ↦ refused 11
      | false ↦
          elim (ltb 2048 (nonterminal_transitions g (length rows) (goes g rows))) [ true ↦ refused 12 | false ↦ conflict_of g rows ]
    ]

-- 10, of a card to which none of 4 to 9 applies
abbrev pub grammar_answer : Grammar → Answer
grammar_answer g =
    elim (ltb (useless_nonterminal g) (g.terminals + g.nonterminals)) [ true ↦ useless_at (useless_nonterminal g) | false ↦ judge g (states g).rows ]

-- 4 to 9
abbrev pub card_answer : List ℕ → Answer
card_answer c = elim (form_fault c) [ suc n ↦ refused (suc n) | zero ↦ grammar_answer (grammar_of c) ]

-- ---- the table of a card: the entering symbols; in a terminal's column the one action, in a nonterminal's the next state
unfoldable pub table_of : List ℕ → List ℕ
table_of c =
    let g = grammar_of c in
    let rows = (states g).rows in
    let f = facts g rows in
    build (length rows) (terminals c) (nonterminals c) (productions c) (left_of c) (length_of c) (entering g rows)
    (λ q x. cond (ltb x (terminals c)) (cell (actions g rows f q x)) (goes g rows q x))
