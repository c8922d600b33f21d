-- The order of the refusals: a table is made only where the areas are long enough.
use mathlib.Core.Path.{◌≡◌, refl}
use mathlib.Core.Bool.{Bool, true, false}
use mathlib.Core.List.{List}
use Prim.Native.Nat.{ℕ}
use native.Mathlib.Omega.{arith}
use lib.ListN.{length}
use lib.Dec.{ltb}
use Rattle.areas.specs.Areas.{table_size, words_size, halves_size}
use Rattle.lalr.specs.Answer.{Answer, made, refused}
use Rattle.lalr.specs.ComputedAnswer.{card_answer}
use Rattle.lalr.specs.ComputedGenerator.{answer_of}

not_made : {n : ℕ} → refused n ≡ made → ⊥
not_made e = let z : ◌≡◌ {A = ℕ} 0 1 = cc in omega arith

pub card_made : (t z w c : List ℕ) → answer_of (length t) (length z) (length w) c ≡ made → card_answer c ≡ made
unfolding answer_of
card_made t z w c e = go (ltb (length t) table_size) refl (ltb (length z) words_size) refl (ltb (length w) halves_size) refl
  where
    go : (a : Bool) → ltb (length t) table_size ≡ a → (b : Bool) → ltb (length z) words_size ≡ b → (d : Bool) → ltb (length w) halves_size ≡ d → card_answer c ≡ made
    go true i b j d k = absurd (not_made (rw (i, answer_of) at e))
    go false i true j d k = absurd (not_made (rw (i, answer_of, j) at e))
    go false i false j true k = absurd (not_made (rw (i, answer_of, j, k) at e))
    go false i false j false k = rw (i, answer_of, j, k) at e
