-- What is printed of a card.
use Rattle.std.specs.Prelude.{ℕ, ◌≡◌, cond, List, get_or, eqb}
use Rattle.decimal.specs.Page.{page_of, page}
use Rattle.listing.specs.Listing.{table_text, refusal_text, text_size}
use Rattle.pages.specs.Pages.{pages_text, pages_size}
use Rattle.lalr.specs.Answer.{numbers_of, Generated}
use Rattle.lalr.specs.ComputedAnswer.{card_answer, table_of}
use Rattle.response.specs.declared.Form.{Form}
use Rattle.response.specs.declared.Form.TheVariants.{Listing, Pages}

-- a table in either form
abbrev pub table_in : Form → List ℕ → List ℕ
table_in Listing t = table_text t
table_in Pages t = pages_text t

-- so many bytes hold what is printed of any card
abbrev pub room_of : Form → ℕ
room_of Listing = text_size
room_of Pages = pages_size

-- by the numbers of an answer: 0 prints the table, every other number a refusal's line
unfoldable pub response_text : Form → List ℕ → List ℕ → List ℕ
response_text form ns t = cond (eqb (get_or ns 0 0) 0) (table_in form t) (refusal_text ns)

-- of a card: the table of the definition, or the refusal
unfoldable pub card_text : Form → List ℕ → List ℕ
card_text form c = response_text form (numbers_of (card_answer c)) (table_of c)

-- the text of the maker's answer stands at the front of the buffer, and the maker's areas are as it leaves them
pub record RepliesAs (form : Form) (g : Generated) (before after : List ℕ) (used : ℕ) (t z w : List ℕ) : Type 0 where
  pub text : page_of after used ≡ page before (response_text form (numbers_of g.answer) g.table)
  pub table : t ≡ g.table
  pub words : z ≡ g.words
  pub halves : w ≡ g.halves
