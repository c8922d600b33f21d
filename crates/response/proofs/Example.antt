-- The answer to card A: for these bytes the text is the one of the paper, in full; and a cell is found on its pages.
use mathlib.Core.Path.{◌≡◌, refl, subst}
use mathlib.Core.List.{List, [], ◌∷◌, ◌++◌}
use Prim.Native.Nat.{ℕ}
use native.Mathlib.Omega.{arith}
use Rattle.sets.specs.Bit.{bit}
use Rattle.sets.specs.Tests.{all_below, between}
use Rattle.grammar.specs.Card as cards
use Rattle.grammar.specs.Card.{symbols, symbol_of, start_of, right_of, is_nonterminal, is_symbol, lefts_ok, rights_ok, form_fault}
use Rattle.tables.specs.Layout.{states, terminals, nonterminals, productions, width, cell_of, build}
use Rattle.lalr.specs.ComputedNonterminals.{nullables, productive, reachable, useless_nonterminal, firsts}
use Rattle.lalr.specs.ComputedStates as lalr
use Rattle.lalr.specs.ComputedStates.{facts, closure, advance, goto}
use Rattle.lalr.specs.Answer.{made}
use Rattle.lalr.specs.ComputedAnswer.{card_answer, table_of}
use Rattle.decimal.specs.Form.{Card}
use Rattle.decimal.specs.Scanning.{fed}
use Rattle.listing.proofs.Example.{table_A, text_A, table_A_text}
use Rattle.response.specs.declared.Form.TheVariants.{Listing, Pages}
use Rattle.response.specs.Response.{response_text, card_text}
use Rattle.pages.specs.Cells.{Found}
use Rattle.response.proofs.CardPages.{card_cell_found}
use Rattle.response.specs.Printed.{Prints, card}
use Rattle.response.proofs.Printed.{found_card}

card_A : List ℕ
card_A = 3 ∷ 1 ∷ 2 ∷ 3 ∷ 3 ∷ 3 ∷ 2 ∷ 1 ∷ 3 ∷ 1 ∷ 2 ∷ []

-- 3 1 2 3
input_0 : List ℕ
input_0 = 51 ∷ 32 ∷ 49 ∷ 32 ∷ 50 ∷ 32 ∷ 51 ∷ 10 ∷ []

-- 3 3
input_1 : List ℕ
input_1 = 51 ∷ 32 ∷ 51 ∷ 10 ∷ []

-- 2 1
input_2 : List ℕ
input_2 = 50 ∷ 32 ∷ 49 ∷ 10 ∷ []

-- 3 1 2
input_3 : List ℕ
input_3 = 51 ∷ 32 ∷ 49 ∷ 32 ∷ 50 ∷ 10 ∷ []

input_A : List ℕ
input_A = input_0 ++ input_1 ++ input_2 ++ input_3

input_A_card : Card input_A card_A
unfolding card_A input_A input_0 input_1 input_2 input_3 fed
input_A_card = found_card input_A card_A refl

card_A_made : card_answer card_A ≡ made
unfolding card_A bit all_below between cards.terminals cards.nonterminals cards.productions symbols cards.left_of cards.length_of symbol_of start_of right_of cards.sizes_ok is_nonterminal is_symbol lefts_ok rights_ok form_fault nullables productive reachable useless_nonterminal firsts lalr.states facts closure advance goto lalr.start
card_A_made = refl

card_A_table : table_of card_A ≡ table_A
unfolding card_A bit all_below between cards.terminals cards.nonterminals cards.productions symbols cards.left_of cards.length_of symbol_of start_of right_of nullables firsts lalr.states facts closure advance goto lalr.start table_of build
card_A_table = refl

card_A_text : card_text Listing card_A ≡ text_A
unfolding card_text response_text
card_A_text = rw (card_A_made, card_A_table) table_A_text

prints_A : Prints Listing input_A text_A
prints_A = subst (Prints Listing input_A) card_A_text (card input_A_card)

-- and on its pages one who looks finds 1,025 for state 1 under symbol 0
pages_A : Found (card_text Pages card_A) 1 0 1025
unfolding card_A states cell_of productions width terminals nonterminals cards.terminals cards.nonterminals
pages_A = (card_cell_found card_A card_A_made 1 0 1025).1 (rw card_A_table (omega arith), omega arith, rw card_A_table refl)
