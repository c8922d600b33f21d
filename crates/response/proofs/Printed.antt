-- What is handed out is the text for the bytes that came; each input has just one text; and the forms differ in tables only.
use mathlib.Core.Path.{◌≡◌, refl, sym, ap, ◌∙◌, subst}
use Rattle.std.specs.Prelude.{Option, Some, None, Result, Ok}
use mathlib.Core.List.{List}
use mathlib.Core.Logic.{◌≢◌}
use Prim.Native.Nat.{ℕ, ◌≤◌}
use native.Mathlib.Omega.{arith}
use lib.ListN.{length, take, length-replicate}
use Rattle.card_input.specs.Reading.{card_size, Came}
use Rattle.card_input.specs.declared.ReadFailed.{ReadFailed}
use Rattle.decimal.specs.Form.{Card}
use Rattle.decimal.specs.Page.{page_of, page}
use Rattle.decimal.specs.Scanning.{scanned}
use Rattle.decimal.proofs.Scanned.{scanned_card, scanned_none}
use Rattle.decimal.proofs.Written.{page_text}
use Rattle.listing.specs.Listing.{not_a_card}
use Rattle.lalr.specs.Answer.{made}
use Rattle.lalr.specs.ComputedAnswer.{card_answer}
use Rattle.response.specs.declared.Form.{Form}
use Rattle.response.specs.Response.{room_of, card_text}
use Rattle.response.specs.Printed.{Prints, card, other, Answers}
use Rattle.response.proofs.CardText.{line_fits, refused_alike}
use Rattle.response.proofs.Whole.{zeros}

-- the text of a card's numbers, and that of an input that is none
module _ (form : Form) (bs area : List ℕ) (i : Result (Option ℕ) ReadFailed) (o : Option ℕ) (read : i ≡ Ok o) (came : Came bs area i) where
  pub card_answers : (n : ℕ) {text : List ℕ} → o ≡ Some n → text ≡ card_text form (take n area) → Answers form bs i text
  card_answers n e t = let h = rw (read, e) at came in rw (read, t) (card h.card)

  pub other_answers : (before out : List ℕ) (n : ℕ) → o ≡ None → page_of out n ≡ page before not_a_card → room_of form ≤ length before → Answers form bs i (take n out)
  other_answers before out n e k room =
      let h = rw (read, e) at came in
      rw (read, page_text before not_a_card out n k (omega (arith, line_fits form))) (other h)

zeros_length : length (zeros card_size) ≡ card_size
zeros_length = length-replicate {A = ℕ} card_size 0

-- a card is what the scan finds
pub found_card : (bs c : List ℕ) → scanned (zeros card_size) bs ≡ Some c → Card bs c
found_card bs c = (scanned_card (zeros card_size) zeros_length bs c).0

module _ (bs : List ℕ) where
  one_card : {c d : List ℕ} → Card bs c → Card bs d → c ≡ d
  one_card {c} {d} h k = let e : Some c ≡ Some d = sym ((scanned_card (zeros card_size) zeros_length bs c).1 h) ∙ (scanned_card (zeros card_size) zeros_length bs d).1 k in cc

  pub one_text : {form : Form} {x y : List ℕ} → Prints form bs x → Prints form bs y → x ≡ y
  one_text {form} (card h) (card k) = ap (card_text form) (one_card h k)
  one_text (card {c} h) (other f) = absurd (f c h)
  one_text (other f) (card {c} h) = absurd (f c h)
  one_text (other f) (other g) = refl

  pub some_text : (form : Form) → (x : List ℕ) × Prints form bs x
  some_text form = go (scanned (zeros card_size) bs) refl
    where
      go : (o : Option (List ℕ)) → scanned (zeros card_size) bs ≡ o → (x : List ℕ) × Prints form bs x
      go None e = (not_a_card, other ((scanned_none (zeros card_size) zeros_length bs).0 e))
      go (Some c) e = (card_text form c, card (found_card bs c e))

  -- where the bytes are no card, or a card that is refused, every form prints the same
  pub alike : (f g : Form) → ((c : List ℕ) → Card bs c → card_answer c ≢ made) → {x : List ℕ} → Prints f bs x → Prints g bs x
  alike f g n (card {c} h) = subst (Prints g bs) (refused_alike c (n c h) g f) (card h)
  alike f g n (other k) = other k
