-- The claims are not empty: card A gets its table, two inputs are read with it, and this is what demand 3 says of them; and what choirs get (card 10).
use mathlib.Core.Path.{◌≡◌, refl}
use mathlib.Core.List.{List, [], ◌∷◌, ◌++◌}
use mathlib.Core.Logic.{◌≢◌, ◌⊎◌, inl, inr}
use mathlib.Core.Bool.{false≢true}
use Prim.Native.Nat.{ℕ, zero, suc, ◌<◌}
use native.Mathlib.Omega.{arith}
use lib.Count.{ones, ones_in}
use Rattle.sets.specs.Bit.{bit}
use Rattle.sets.specs.Tests.{all_below, between}
use Rattle.grammar.specs.Grammar.{Sentence, Rightmost}
use Rattle.grammar.specs.Prefix.{Begins, ErrorPosition}
use Rattle.grammar.specs.Card
use Rattle.grammar.specs.Card.{grammar_of, symbols, symbol_of, start_of, right_of, is_nonterminal, is_symbol, lefts_ok, rights_ok, form_fault}
use Rattle.tables.specs.Layout
use Rattle.tables.specs.Layout.{width, entered_of, cell_of, size_of, build}
use Rattle.machine.specs.Report.{ended, wrong_at_is, numbers_of, Reading}
use Rattle.machine.specs.ComputedRun.{popped, top_of, action_of, shifted, reduced_to, reduced, moved_by, after, run, start, fresh, fresh_number, decided, word_of, expected_word, expected_at, unknown_at, wrong_at, report_of, reading_of, reading, masked, restricted_reading}
use Rattle.machine.specs.Checks
use Rattle.machine.specs.Checks.{production_ok, terminal_cell_ok, cell_ok, row_ok, productions_ok, cells_ok, entry_ok, names_ok, row_names_ok, entries_ok, terminal_ok, input_ok, table_refusal, input_refusal, area_refusal, refusal_of, closed_ok, restricted_refusal, Refusal, of_table, table_short, sizes_wrong, production_wrong, cell_wrong, entry_wrong, input_long, terminal_wrong, no_stack, second_short, RestrictedRefusal, as_ever}
use Rattle.machine.specs.Restricted.{OpenLine, FirstClosed}
use Rattle.machine.specs.Compared.{EndsBy}
use Rattle.machine.proofs.ComparedLaws.{ends_by}
use Rattle.claim.specs.Claim.{Demand3, Settled}
use Rattle.claim.specs.RestrictedClaim.{RestrictedSettled, RestrictedPosition, RestrictedOffer, RestrictedDemand3}
use Rattle.lalr.specs.ComputedNonterminals.{nullables, productive, reachable, useless_nonterminal, firsts}
use Rattle.lalr.specs.ComputedStates
use Rattle.lalr.specs.ComputedStates.{facts, closure, advance, goto}
use Rattle.lalr.specs.Answer.{made}
use Rattle.lalr.specs.ComputedAnswer.{card_answer, table_of}
use Rattle.certificate.specs.Rows.{card_a}
use Rattle.certificate.proofs.Demand.{demand_3, restricted_demand_3}

a_made : card_answer card_a ≡ made
unfolding bit all_below between Card.terminals Card.nonterminals Card.productions symbols Card.left_of Card.length_of symbol_of start_of right_of Card.sizes_ok is_nonterminal is_symbol lefts_ok rights_ok form_fault nullables productive reachable useless_nonterminal firsts ComputedStates.states facts closure advance goto ComputedStates.start
a_made = refl

-- 0 and 31 are no refusals
taken : {n : ℕ} → Refusal n → (0 < n) × (n ≢ 31)
taken (of_table table_short) = (omega arith, λ e. omega arith)
taken (of_table sizes_wrong) = (omega arith, λ e. omega arith)
taken (of_table production_wrong) = (omega arith, λ e. omega arith)
taken (of_table cell_wrong) = (omega arith, λ e. omega arith)
taken (of_table entry_wrong) = (omega arith, λ e. omega arith)
taken input_long = (omega arith, λ e. omega arith)
taken terminal_wrong = (omega arith, λ e. omega arith)
taken no_stack = (omega arith, λ e. omega arith)
taken second_short = (omega arith, λ e. omega arith)

pub settled : {n : ℕ} → (n ≡ 0) ⊎ (n ≡ 31) → Settled n
settled (inl e) = record { taken = λ h. omega (arith, (taken h).0); steps_left = λ z. omega arith; stack_left = λ z. omega arith; list_left = λ z. omega arith }
settled (inr e) = record { taken = λ h. (taken h).1 e; steps_left = λ z. omega arith; stack_left = λ z. omega arith; list_left = λ z. omega arith }

-- with one place behind the table, stack, list and second areas of 4, 2 and 4 places, 5 steps
good_claim : Demand3 (grammar_of card_a) (2 ∷ 1 ∷ []) (record { report = ended 0 5 2 2; stack = 0 ∷ 2 ∷ 0 ∷ 9 ∷ []; list = 1 ∷ 0 ∷ []; second = 0 ∷ 0 ∷ 0 ∷ 0 ∷ [] })
unfolding bit all_below between Card.terminals Card.nonterminals Card.productions symbols Card.left_of Card.length_of symbol_of start_of right_of nullables productive reachable useless_nonterminal firsts ComputedStates.states facts closure advance goto ComputedStates.start table_of build Layout.states Layout.terminals Layout.nonterminals Layout.productions width Layout.left_of Layout.length_of entered_of cell_of size_of popped top_of action_of shifted reduced_to reduced moved_by after run start ones ones_in fresh fresh_number decided word_of expected_word expected_at unknown_at wrong_at report_of reading_of Checks.sizes_ok production_ok terminal_cell_ok cell_ok row_ok productions_ok cells_ok entry_ok names_ok row_names_ok entries_ok terminal_ok input_ok table_refusal input_refusal area_refusal refusal_of reading
good_claim = demand_3 card_a a_made (0 ∷ []) (2 ∷ 1 ∷ []) (9 ∷ 9 ∷ 9 ∷ 9 ∷ []) (9 ∷ 9 ∷ []) (9 ∷ 9 ∷ 9 ∷ 9 ∷ []) 5

-- 2 1 is a sentence, and its one rightmost derivation is by the productions 0 1
pub good_sentence : Sentence (grammar_of card_a) (2 ∷ 1 ∷ [])
good_sentence = (good_claim.accepts (settled (inl refl))).0 refl

pub good_derivation : Rightmost (grammar_of card_a) (3 ∷ []) (0 ∷ 1 ∷ []) (2 ∷ 1 ∷ [])
unfolding Card.terminals
good_derivation = good_claim.derivation refl

bad_claim : Demand3 (grammar_of card_a) (2 ∷ 2 ∷ []) (record { report = wrong_at_is 1 2 0 1 3 2; stack = 0 ∷ 1 ∷ 9 ∷ 9 ∷ []; list = 9 ∷ 9 ∷ []; second = 0 ∷ 0 ∷ 0 ∷ 0 ∷ [] })
unfolding bit all_below between Card.terminals Card.nonterminals Card.productions symbols Card.left_of Card.length_of symbol_of start_of right_of nullables productive reachable useless_nonterminal firsts ComputedStates.states facts closure advance goto ComputedStates.start table_of build Layout.states Layout.terminals Layout.nonterminals Layout.productions width Layout.left_of Layout.length_of entered_of cell_of size_of popped top_of action_of shifted reduced_to reduced moved_by after run start ones ones_in fresh fresh_number decided word_of expected_word expected_at unknown_at wrong_at report_of reading_of Checks.sizes_ok production_ok terminal_cell_ok cell_ok row_ok productions_ok cells_ok entry_ok names_ok row_names_ok entries_ok terminal_ok input_ok table_refusal input_refusal area_refusal refusal_of reading
bad_claim = demand_3 card_a a_made (0 ∷ []) (2 ∷ 2 ∷ []) (9 ∷ 9 ∷ 9 ∷ 9 ∷ []) (9 ∷ 9 ∷ []) (9 ∷ 9 ∷ 9 ∷ 9 ∷ []) 5

-- 2 2 goes wrong at its second terminal
pub bad_position : ErrorPosition (grammar_of card_a) (2 ∷ 2 ∷ []) 1
bad_position = (bad_claim.names_position (settled (inr refl)) (λ e. omega arith)).1

-- behind 2 the offer has 1 and the end: 2 1 begins a sentence, and 2 is one
pub bad_offer : Begins (grammar_of card_a) (2 ∷ 1 ∷ []) × Sentence (grammar_of card_a) (2 ∷ [])
unfolding bit
bad_offer = let o = bad_claim.offers refl in ((o.followers 1 (λ e. omega arith)).0 refl, o.end.0 refl)

-- ---- choirs, by the same table and with the same areas

abbrev publisher : (input : List ℕ) (limit : ℕ) → Reading
publisher input limit = reading (table_of card_a ++ 0 ∷ []) input (9 ∷ 9 ∷ 9 ∷ 9 ∷ []) (9 ∷ 9 ∷ []) (9 ∷ 9 ∷ 9 ∷ 9 ∷ []) limit

abbrev choir : (closed : ℕ) (input : List ℕ) (limit : ℕ) → Reading
choir closed input limit = restricted_reading (table_of card_a ++ 0 ∷ []) closed input (9 ∷ 9 ∷ 9 ∷ 9 ∷ []) (9 ∷ 9 ∷ []) (9 ∷ 9 ∷ 9 ∷ 9 ∷ []) limit

-- the numbers of both
abbrev both : (closed : ℕ) (input : List ℕ) (limit : ℕ) → List (List ℕ)
both closed input limit = numbers_of (publisher input limit).report ∷ numbers_of (choir closed input limit).report ∷ []

pub choirs :
    -- 2 1 with 1 closed: wrong at place 1, with the end offered
    (both 2 (2 ∷ 1 ∷ []) 5 ≡ (0 ∷ 5 ∷ 2 ∷ 2 ∷ []) ∷ (31 ∷ 1 ∷ 2 ∷ 0 ∷ 1 ∷ 1 ∷ 1 ∷ []) ∷ [])
    -- with one step the publisher is out of steps under 1, where the choir is wrong: the fresh reading for the end is cut short
    × (both 2 (2 ∷ 1 ∷ []) 1 ≡ (32 ∷ 1 ∷ 2 ∷ 0 ∷ []) ∷ (46 ∷ 1 ∷ 2 ∷ 0 ∷ 1 ∷ 0 ∷ 0 ∷ []) ∷ [])
    -- 2 2 has no closed terminal: wrong at place 1 for both, and 1 is not offered to the choir
    × (both 2 (2 ∷ 2 ∷ []) 5 ≡ (31 ∷ 1 ∷ 2 ∷ 0 ∷ 1 ∷ 3 ∷ 2 ∷ []) ∷ (31 ∷ 1 ∷ 2 ∷ 0 ∷ 1 ∷ 1 ∷ 1 ∷ []) ∷ [])
    -- in 2 2 1 that comes before the closed terminal
    × (both 2 (2 ∷ 2 ∷ 1 ∷ []) 5 ≡ (31 ∷ 1 ∷ 2 ∷ 0 ∷ 1 ∷ 3 ∷ 2 ∷ []) ∷ (31 ∷ 1 ∷ 2 ∷ 0 ∷ 1 ∷ 1 ∷ 1 ∷ []) ∷ [])
    -- the empty line with 2 closed, without a step: 46 comes of 2 alone
    × (both 4 [] 0 ≡ (46 ∷ 0 ∷ 1 ∷ 0 ∷ 0 ∷ 0 ∷ 0 ∷ []) ∷ (31 ∷ 0 ∷ 1 ∷ 0 ∷ 0 ∷ 0 ∷ 0 ∷ []) ∷ [])
    -- nothing closed
    × (both 0 (2 ∷ 1 ∷ []) 5 ≡ (0 ∷ 5 ∷ 2 ∷ 2 ∷ []) ∷ (0 ∷ 5 ∷ 2 ∷ 2 ∷ []) ∷ [])
    -- bit 0, and bit T
    × (both 1 (2 ∷ 1 ∷ []) 5 ≡ (0 ∷ 5 ∷ 2 ∷ 2 ∷ []) ∷ (50 ∷ []) ∷ [])
    × (both 8 (2 ∷ 1 ∷ []) 5 ≡ (0 ∷ 5 ∷ 2 ∷ 2 ∷ []) ∷ (50 ∷ []) ∷ [])
unfolding bit all_below between Card.terminals Card.nonterminals Card.productions symbols Card.left_of Card.length_of symbol_of start_of right_of nullables productive reachable useless_nonterminal firsts ComputedStates.states facts closure advance goto ComputedStates.start table_of build Layout.states Layout.terminals Layout.nonterminals Layout.productions width Layout.left_of Layout.length_of entered_of cell_of size_of popped top_of action_of shifted reduced_to reduced moved_by after run start ones ones_in fresh fresh_number decided word_of expected_word expected_at unknown_at wrong_at report_of reading_of Checks.sizes_ok production_ok terminal_cell_ok cell_ok row_ok productions_ok cells_ok entry_ok names_ok row_names_ok entries_ok terminal_ok input_ok table_refusal input_refusal area_refusal refusal_of reading masked closed_ok restricted_refusal restricted_reading
choirs = (refl, refl, refl, refl, refl, refl, refl, refl)

-- 2 1 is a sentence; with 1 closed it is not accepted
choir_claim : RestrictedDemand3 (grammar_of card_a) 2 (2 ∷ 1 ∷ []) (record { report = wrong_at_is 1 2 0 1 1 1; stack = 0 ∷ 1 ∷ 9 ∷ 9 ∷ []; list = 9 ∷ 9 ∷ []; second = 0 ∷ 0 ∷ 0 ∷ 0 ∷ [] })
unfolding bit all_below between Card.terminals Card.nonterminals Card.productions symbols Card.left_of Card.length_of symbol_of start_of right_of nullables productive reachable useless_nonterminal firsts ComputedStates.states facts closure advance goto ComputedStates.start table_of build Layout.states Layout.terminals Layout.nonterminals Layout.productions width Layout.left_of Layout.length_of entered_of cell_of size_of popped top_of action_of shifted reduced_to reduced moved_by after run start ones ones_in fresh fresh_number decided word_of expected_word expected_at unknown_at wrong_at report_of reading_of Checks.sizes_ok production_ok terminal_cell_ok cell_ok row_ok productions_ok cells_ok entry_ok names_ok row_names_ok entries_ok terminal_ok input_ok table_refusal input_refusal area_refusal refusal_of reading masked closed_ok restricted_refusal restricted_reading
choir_claim = restricted_demand_3 card_a a_made (0 ∷ []) 2 (2 ∷ 1 ∷ []) (9 ∷ 9 ∷ 9 ∷ 9 ∷ []) (9 ∷ 9 ∷ []) (9 ∷ 9 ∷ 9 ∷ 9 ∷ []) 5

choir_settled : RestrictedSettled 31
choir_settled = record { taken = never; steps_left = λ z. omega arith; stack_left = λ z. omega arith; list_left = λ z. omega arith }
  where
    never : RestrictedRefusal 31 → ⊥
    never (as_ever h) = (taken h).1 refl

-- 1 is named where it stands
pub choir_position : RestrictedPosition (grammar_of card_a) 2 (2 ∷ 1 ∷ []) 1
choir_position = (choir_claim.names_position choir_settled (λ e. omega arith)).1

-- the end is offered, 1 is not
pub choir_offer : RestrictedOffer (grammar_of card_a) 2 (2 ∷ []) 1
choir_offer = choir_claim.offers refl

-- 1 is the first closed terminal, and there the reading ends
choir_first : FirstClosed 2 (2 ∷ 1 ∷ []) 1
unfolding bit
choir_first = record { inside = omega arith; before = free; there = refl }
  where
    free : OpenLine 2 (2 ∷ [])
    free zero h e = false≢true e
    free (suc i) h e = omega arith

choir_taken : restricted_refusal (table_of card_a ++ 0 ∷ []) 2 (2 ∷ 1 ∷ []) 4 4 ≡ 0
unfolding bit all_below between Card.terminals Card.nonterminals Card.productions symbols Card.left_of Card.length_of symbol_of start_of right_of nullables productive reachable useless_nonterminal firsts ComputedStates.states facts closure advance goto ComputedStates.start table_of build Layout.states Layout.terminals Layout.nonterminals Layout.productions width Layout.left_of Layout.length_of entered_of cell_of size_of popped top_of action_of shifted reduced_to reduced moved_by after run start ones ones_in fresh fresh_number decided word_of expected_word expected_at unknown_at wrong_at report_of reading_of Checks.sizes_ok production_ok terminal_cell_ok cell_ok row_ok productions_ok cells_ok entry_ok names_ok row_names_ok entries_ok terminal_ok input_ok table_refusal input_refusal area_refusal refusal_of reading masked closed_ok restricted_refusal restricted_reading
choir_taken = refl

pub choir_ends : EndsBy (table_of card_a ++ 0 ∷ []) 2 (2 ∷ 1 ∷ []) 5 4 1 (publisher (2 ∷ 1 ∷ []) 5) (choir 2 (2 ∷ 1 ∷ []) 5)
choir_ends = ends_by _ 2 (2 ∷ 1 ∷ []) (9 ∷ 9 ∷ 9 ∷ 9 ∷ []) (9 ∷ 9 ∷ []) (9 ∷ 9 ∷ 9 ∷ 9 ∷ []) 5 choir_taken 1 choir_first
