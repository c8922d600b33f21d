-- Any cell is read back from the pages of a card that has a table.
use mathlib.Core.Path.{◌≡◌, refl}
use mathlib.Core.Logic.{◌↔◌}
use mathlib.Core.List.{List, [], ◌∷◌}
use Prim.Native.Nat.{ℕ, ◌+◌, ◌*◌, ◌/◌, ◌<◌, ◌≤◌}
use native.Mathlib.Omega.{arith}
use Rattle.grammar.specs.Card as cards
use Rattle.tables.specs.Layout.{states, cell_of}
use Rattle.lalr.specs.Answer.{made}
use Rattle.lalr.specs.ComputedAnswer.{card_answer, table_of}
use Rattle.pages.specs.Pages.{pages_text, row_lines}
use Rattle.pages.specs.Cells.{cell_back, Found}
use Rattle.pages.specs.Sheets.{Lines}
use Rattle.pages.proofs.Form.{in_pages}
use Rattle.pages.proofs.ReadBack.{cell_back_is, found}
use Rattle.response.specs.declared.Form.TheVariants.{Pages}
use Rattle.response.specs.Response.{response_text, card_text}
use Rattle.response.proofs.CardText.{small_table, few_states, wide_rows}

module _ (c : List ℕ) (m : card_answer c ≡ made) where
  -- the text is the pages of the card's table
  pub card_pages : card_text Pages c ≡ pages_text (table_of c)
  unfolding card_text response_text
  card_pages = rw m refl

  few : states (table_of c) ≤ 10000
  few = omega (arith, few_states c m)

  -- whole pages: 60 lines of 72 columns, each with a line feed
  pub card_in_pages : Lines (60 * ((states (table_of c) * row_lines (cards.terminals c + cards.nonterminals c) + 59) / 60)) (card_text Pages c)
  card_in_pages = rw (card_pages, ← wide_rows c m) (in_pages (table_of c) (small_table c m) few)

  -- by its place, with the pages and T + N alone
  pub card_cell_back : (q x : ℕ) → q < states (table_of c) → x < cards.terminals c + cards.nonterminals c
      → cell_back (card_text Pages c) (cards.terminals c + cards.nonterminals c) q x ≡ cell_of (table_of c) q x ∷ []
  card_cell_back q x h k = rw (card_pages, ← wide_rows c m) (cell_back_is (table_of c) (small_table c m) few q x h (rw (wide_rows c m) k))

  -- by looking, with the pages alone: the cells of the table are found, and nothing else
  pub card_cell_found : (q x v : ℕ) → Found (card_text Pages c) q x v ↔ ((q < states (table_of c)) × (x < cards.terminals c + cards.nonterminals c) × (v ≡ cell_of (table_of c) q x))
  card_cell_found q x v = rw (card_pages, ← wide_rows c m) (found (table_of c) (small_table c m) few q x v)
