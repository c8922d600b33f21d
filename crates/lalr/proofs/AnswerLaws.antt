-- The numbers of an answer tell the answer: no refusal with its number alone has the number of another kind.
use mathlib.Core.Path.{◌≡◌, refl, sym, ap, ◌∙◌}
use mathlib.Core.Bool.{Bool, true, false, cond}
use mathlib.Core.Logic.{◌≢◌}
use mathlib.Core.List.{List, [], ◌∷◌}
use Prim.Native.Nat.{ℕ, zero, suc, ◌≤◌, ◌<◌}
use native.Mathlib.Omega.{arith}
use lib.ListN.{length, get_or}
use lib.Dec.{ltb, eqb}
use borrow.Author.Tests.{ne_eqb}
use Rattle.grammar.specs.Grammar.{Grammar}
use Rattle.grammar.specs.Card.{form_fault}
use Rattle.grammar.proofs.CardLaws.{fault_most}
use Rattle.areas.specs.Areas.{table_size, words_size, halves_size}
use Rattle.lalr.specs.Answer.{Answer, made, refused, useless_at, conflict, numbers_of}
use Rattle.lalr.specs.ComputedAnswer.{card_answer}
use Rattle.lalr.specs.ComputedGenerator.{answer_of, generated}
use Rattle.lalr.specs.Meaning.{Judged, useless, many, wide, clash, fine}
use Rattle.lalr.proofs.Main.{card_answer_is}

-- a refusal with its number alone is none of 0, 10 and 13
pub data Proper : Answer → Type 0 where
  a_table : Proper made
  alone : (n : ℕ) → n ≢ 0 → n ≢ 10 → n ≢ 13 → Proper (refused n)
  at_nonterminal : {x : ℕ} → Proper (useless_at x)
  at_cell : {q m v w : ℕ} → Proper (conflict q m v w)

judged_proper : {g : Grammar} {a : Answer} → Judged g a → Proper a
judged_proper (useless n u l) = at_nonterminal
judged_proper (many u m) = alone 11 (λ e. omega arith) (λ e. omega arith) (λ e. omega arith)
judged_proper (wide count next u s f k) = alone 12 (λ e. omega arith) (λ e. omega arith) (λ e. omega arith)
judged_proper (clash count next s k) = at_cell
judged_proper (fine count next s k) = a_table

few : (n : ℕ) → 0 < n → n ≤ 9 → Proper (refused n)
few n h k = alone n (λ e. omega arith) (λ e. omega arith) (λ e. omega arith)

card_proper : (c : List ℕ) → Proper (card_answer c)
card_proper c = go (form_fault c) refl
  where
    go : (n : ℕ) → form_fault c ≡ n → Proper (card_answer c)
    go zero e = judged_proper ((card_answer_is c e (card_answer c)).0 refl)
    go (suc n) e = rw (e, card_answer) (few (suc n) (omega arith) (omega (arith, fault_most c)))

pub answer_proper : (t z w c : List ℕ) → Proper (generated t z w c).answer
unfolding generated answer_of
answer_proper t z w c = go (ltb (length t) table_size) refl (ltb (length z) words_size) refl (ltb (length w) halves_size) refl
  where
    go : (a : Bool) → ltb (length t) table_size ≡ a → (b : Bool) → ltb (length z) words_size ≡ b → (d : Bool) → ltb (length w) halves_size ≡ d → Proper (answer_of (length t) (length z) (length w) c)
    go true i b j d k = rw (i, answer_of) (few 1 (omega arith) (omega arith))
    go false i true j d k = rw (i, answer_of, j) (few 2 (omega arith) (omega arith))
    go false i false j true k = rw (i, answer_of, j, k) (few 3 (omega arith) (omega arith))
    go false i false j false k = rw (i, answer_of, j, k) (card_proper c)

-- the answer of its numbers
abbrev answer_by : List ℕ → Answer
answer_by ns =
    cond (eqb (length ns) 1) (cond (eqb (get_or ns 0 0) 0) made (refused (get_or ns 0 0)))
    (cond (eqb (length ns) 2) (useless_at (get_or ns 1 0)) (conflict (get_or ns 1 0) (get_or ns 2 0) (get_or ns 3 0) (get_or ns 4 0)))

numbers_tell : {a : Answer} → Proper a → answer_by (numbers_of a) ≡ a
numbers_tell a_table = refl
numbers_tell (alone n h k l) = rw (ne_eqb n 0 h) refl
numbers_tell at_nonterminal = refl
numbers_tell at_cell = refl

pub numbers_one : {a b : Answer} → Proper a → Proper b → numbers_of a ≡ numbers_of b → a ≡ b
numbers_one p q e = sym (numbers_tell p) ∙ ap answer_by e ∙ numbers_tell q

pub made_by_number : (t z w c : List ℕ) → numbers_of (generated t z w c).answer ≡ 0 ∷ [] → (generated t z w c).answer ≡ made
made_by_number t z w c e = numbers_one (answer_proper t z w c) a_table e
