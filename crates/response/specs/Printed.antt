-- What a program prints for an input, which is told by its bytes.
use Rattle.std.specs.Prelude.{ℕ, ◌≡◌, List, [], Option, Result, Ok, Err}
use Rattle.decimal.specs.Form.{Card}
use Rattle.card_input.specs.declared.ReadFailed.{ReadFailed}
use Rattle.listing.specs.Listing.{not_a_card}
use Rattle.response.specs.declared.Form.{Form}
use Rattle.response.specs.Response.{card_text}

pub data Prints (form : Form) (bs : List ℕ) : List ℕ → Type 0 where
  -- the text of the card's numbers; an input without a number is the empty card
  card : {c : List ℕ} → Card bs c → Prints form bs (card_text form c)
  -- "input of other form, or over 772 numbers, prints `not a card`"
  other : ((c : List ℕ) → Card bs c → ⊥) → Prints form bs not_a_card

-- the text for what was read of the input bs; nothing is printed where a read failed
abbrev pub Answers : Form → List ℕ → Result (Option ℕ) ReadFailed → List ℕ → Type 0
Answers form bs (Ok n) text = Prints form bs text
Answers form bs (Err e) text = text ≡ []
