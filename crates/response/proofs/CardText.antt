-- What is printed of a card is told by the card alone, fits a buffer of `room_of` bytes, and reads back.
use mathlib.Core.Path.{◌≡◌, refl, sym, ap, ◌∙◌}
use mathlib.Core.List.{List}
use mathlib.Core.Logic.{◌≢◌}
use Prim.Native.Nat.{ℕ, ◌+◌, ◌≤◌}
use native.Mathlib.Omega.{arith}
use borrow.Author.Tests.{le-ltb, ne_eqb}
use lib.ListN.{length, get_or}
use Rattle.grammar.specs.Card as cards
use Rattle.tables.specs.Layout.{states, productions, width}
use Rattle.areas.specs.Areas.{table_size, words_size, halves_size}
use Rattle.lalr.specs.Answer.{Answer, made, numbers_of}
use Rattle.lalr.specs.ComputedAnswer.{card_answer, table_of}
use Rattle.lalr.specs.ComputedGenerator.{answer_of, generated}
use Rattle.lalr.proofs.AreaLaws.{made_area}
use Rattle.lalr.proofs.Main.{card_table, table_words}
use Rattle.lalr.proofs.TableLaws.{made_of, the_form}
use Rattle.listing.specs.Listing.{refusal_text}
use Rattle.listing.specs.Numbers.{numbers_in}
use Rattle.listing.proofs.ReadBack.{table_back_whole, refusal_back}
use Rattle.listing.proofs.Room.{Small, table_room, refusal_room}
use Rattle.pages.proofs.Room.{pages_room}
use Rattle.response.specs.declared.Form.{Form}
use Rattle.response.specs.declared.Form.TheVariants.{Listing, Pages}
use Rattle.response.specs.Response.{table_in, room_of, response_text, card_text}
use Rattle.response.proofs.Front.{front}
use Rattle.response.proofs.Numbers.{Refusal, Printed, table, line, small, answer_printed, not_made}

refusal_text_is : (form : Form) (a : Answer) (t : List ℕ) → Refusal a → response_text form (numbers_of a) t ≡ refusal_text (numbers_of a)
unfolding response_text
refusal_text_is form a t r = rw (ne_eqb (get_or (numbers_of a) 0 0) 0 (λ e. omega (arith, r.some))) refl

-- a table of the maker is within the limits, and its rows are as wide as the card says: T + N
module _ (c : List ℕ) (m : card_answer c ≡ made) where
  pub small_table : Small (table_of c)
  small_table i = let b = table_words c m i in omega arith

  pub few_states : states (table_of c) ≤ 256
  few_states = omega (arith, (card_table c m).sizes.0, (made_of c m).few)

  pub wide_rows : width (table_of c) ≡ cards.terminals c + cards.nonterminals c
  unfolding width
  wide_rows = let z = (card_table c m).sizes in omega (arith, z.1, z.2)

  table_most : (form : Form) → length (table_in form (table_of c)) ≤ room_of form
  table_most form =
      let l = (the_form c (made_of c m)).limits in
      go form (omega (arith, wide_rows, l.terminals_to, l.nonterminals_to)) (omega (arith, (card_table c m).sizes.3, l.productions_to))
    where
      go : (form : Form) → width (table_of c) ≤ 124 → productions (table_of c) ≤ 128 → length (table_in form (table_of c)) ≤ room_of form
      go Listing w p = table_room (table_of c) small_table few_states w p
      go Pages w p = pages_room (table_of c) small_table few_states w

-- a line has room
pub line_fits : (form : Form) → 38 ≤ room_of form
line_fits Listing = omega arith
line_fits Pages = omega arith

long_areas : (t z w c : List ℕ) → table_size ≤ length t → words_size ≤ length z → halves_size ≤ length w → answer_of (length t) (length z) (length w) c ≡ card_answer c
unfolding answer_of
long_areas t z w c h i j = rw (le-ltb (length t) table_size h, answer_of, le-ltb (length z) words_size i, le-ltb (length w) halves_size j) refl

answer_long : (t z w c : List ℕ) → table_size ≤ length t → words_size ≤ length z → halves_size ≤ length w → (generated t z w c).answer ≡ card_answer c
unfolding generated
answer_long t z w c h i j = long_areas t z w c h i j

-- what the maker leaves in areas that are long enough prints the card's text
pub card_text_is : (form : Form) (t z w c : List ℕ) → table_size ≤ length t → words_size ≤ length z → halves_size ≤ length w
    → response_text form (numbers_of (generated t z w c).answer) (generated t z w c).table ≡ card_text form c
unfolding card_text response_text
card_text_is form t z w c h i j = ap (λ (a : Answer). response_text form (numbers_of a) (generated t z w c).table) (answer_long t z w c h i j) ∙ go refl (answer_printed c)
  where
    go : {a : Answer} → card_answer c ≡ a → Printed a → response_text form (numbers_of a) (generated t z w c).table ≡ response_text form (numbers_of a) (table_of c)
    go e table = rw (made_area t z w c (long_areas t z w c h i j ∙ e)) (front (table_of c) _ (card_table c e).long form)
    go e (line a r) = refusal_text_is form a _ r ∙ sym (refusal_text_is form a _ r)

-- and the text fits
pub card_room : (form : Form) (c : List ℕ) → length (card_text form c) ≤ room_of form
unfolding card_text response_text
card_room form c = go refl (answer_printed c)
  where
    go : {a : Answer} → card_answer c ≡ a → Printed a → length (response_text form (numbers_of a) (table_of c)) ≤ room_of form
    go e table = table_most c e form
    go e (line a r) = rw (refusal_text_is form a (table_of c) r) (let b = refusal_room (numbers_of a) (small r.words) r.few in omega (arith, line_fits form))

-- and reads back: the numbers of the table, or of the refusal
pub card_back : (c : List ℕ) → card_answer c ≡ made → numbers_in (card_text Listing c) ≡ table_of c
unfolding card_text response_text
card_back c m = rw m (table_back_whole (table_of c) (card_table c m).long)

module _ (c : List ℕ) (n : card_answer c ≢ made) where
  refused_text : (form : Form) → card_text form c ≡ refusal_text (numbers_of (card_answer c))
  unfolding card_text
  refused_text form = refusal_text_is form (card_answer c) (table_of c) (not_made c n)

  pub card_refusal_back : (form : Form) → numbers_in (card_text form c) ≡ numbers_of (card_answer c)
  card_refusal_back form = ap numbers_in (refused_text form) ∙ refusal_back (numbers_of (card_answer c))

  -- a refusal is the same in both forms, byte for byte
  pub refused_alike : (f g : Form) → card_text f c ≡ card_text g c
  refused_alike f g = refused_text f ∙ sym (refused_text g)
