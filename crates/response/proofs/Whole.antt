-- Where all areas and the buffer are long enough, what a reply leaves in the bytes used is the card's text.
use mathlib.Core.Path.{◌≡◌}
use mathlib.Core.List.{List}
use Prim.Native.Nat.{ℕ, ◌≤◌}
use native.Mathlib.Omega.{arith}
use lib.ListN.{length, take, replicate, length-replicate}
use Rattle.areas.specs.Areas.{table_size, words_size, halves_size}
use Rattle.decimal.proofs.Written.{page_text}
use Rattle.lalr.specs.Answer.{numbers_of}
use Rattle.lalr.specs.ComputedGenerator.{generated}
use Rattle.response.specs.declared.Form.{Form}
use Rattle.response.specs.Response.{room_of, response_text, card_text, RepliesAs}
use Rattle.response.proofs.CardText.{card_text_is, card_room}

pub reply_whole : (form : Form) (t z w c before after : List ℕ) (n : ℕ) {t' z' w' : List ℕ} → RepliesAs form (generated t z w c) before after n t' z' w'
    → table_size ≤ length t → words_size ≤ length z → halves_size ≤ length w → room_of form ≤ length before → take n after ≡ card_text form c
reply_whole form t z w c before after n r h i j k =
    let e : response_text form (numbers_of (generated t z w c).answer) (generated t z w c).table ≡ card_text form c = card_text_is form t z w c h i j in
    page_text before (card_text form c) after n (rw e at r.text) (omega (arith, card_room form c))

abbrev pub zeros : ℕ → List ℕ
zeros n = replicate n 0

pub zeros_long : (n : ℕ) → n ≤ length (zeros n)
zeros_long n = omega (arith, length-replicate {A = ℕ} n 0)

-- areas of zeros
pub reply_text : (form : Form) (c before after : List ℕ) (n : ℕ) {t z w : List ℕ} → RepliesAs form (generated (zeros table_size) (zeros words_size) (zeros halves_size) c) before after n t z w
    → room_of form ≤ length before → take n after ≡ card_text form c
reply_text form c before after n r h = reply_whole form (zeros table_size) (zeros words_size) (zeros halves_size) c before after n r (zeros_long table_size) (zeros_long words_size) (zeros_long halves_size) h
