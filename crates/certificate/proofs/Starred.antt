-- The rows of the starred cards and lines follow from the definitions, by computing.
use mathlib.Core.Path.{◌≡◌, refl}
use mathlib.Core.List.{map}
use lib.Count.{ones, ones_in}
use Rattle.sets.specs.Bit.{bit}
use Rattle.sets.specs.Lists.{covered}
use Rattle.sets.specs.Tests.{all_below, between}
use Rattle.grammar.specs.Card
use Rattle.grammar.specs.Card.{symbols, symbol_of, start_of, right_of, is_nonterminal, is_symbol, lefts_ok, rights_ok, form_fault}
use Rattle.tables.specs.Layout
use Rattle.tables.specs.Layout.{width, entered_of, cell_of, size_of, build}
use Rattle.machine.specs.ComputedRun.{popped, top_of, action_of, shifted, reduced_to, reduced, moved_by, after, run, start, fresh, fresh_number, decided, word_of, expected_word, expected_at, unknown_at, wrong_at, report_of, reading_of, reading}
use Rattle.machine.specs.Checks
use Rattle.machine.specs.Checks.{production_ok, terminal_cell_ok, cell_ok, row_ok, productions_ok, cells_ok, entry_ok, names_ok, row_names_ok, entries_ok, terminal_ok, input_ok, table_refusal, input_refusal, area_refusal, refusal_of}
use Rattle.lalr.specs.ComputedNonterminals.{nullables, productive, reachable, useless_nonterminal, firsts}
use Rattle.lalr.specs.ComputedStates
use Rattle.lalr.specs.ComputedStates.{facts, closure, advance, goto}
use Rattle.lalr.specs.ComputedAnswer.{table_of}
use Rattle.lalr.specs.ComputedGenerator.{answer_of, generated}
use Rattle.certificate.specs.Rows.{Row, rows, stated, computed}

pub starred : map (λ (r : Row). computed r.card r.lines) rows ≡ map (λ (r : Row). stated r.answer r.lines) rows
unfolding bit all_below between Card.terminals Card.nonterminals Card.productions symbols Card.left_of Card.length_of symbol_of start_of right_of nullables productive reachable useless_nonterminal firsts ComputedStates.states facts closure advance goto ComputedStates.start table_of build Layout.states Layout.terminals Layout.nonterminals Layout.productions width Layout.left_of Layout.length_of entered_of cell_of size_of popped top_of action_of shifted reduced_to reduced moved_by after run start ones ones_in fresh fresh_number decided word_of expected_word expected_at unknown_at wrong_at report_of reading_of Checks.sizes_ok production_ok terminal_cell_ok cell_ok row_ok productions_ok cells_ok entry_ok names_ok row_names_ok entries_ok terminal_ok input_ok table_refusal input_refusal area_refusal refusal_of reading Card.sizes_ok is_nonterminal is_symbol lefts_ok rights_ok form_fault answer_of generated covered
starred = refl
