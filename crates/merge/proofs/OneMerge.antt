-- Two cards and an area have one answer, and the area is left in one state; a card that is merged joins the two.
use mathlib.Core.Path.{◌≡◌, refl, sym, ap, ◌∙◌}
use mathlib.Core.Logic.{◌≢◌}
use mathlib.Core.Bool.{true, false, false≢true}
use mathlib.Core.List.{List}
use Prim.Native.Nat.{ℕ, ◌≤◌, ◌<◌}
use native.Mathlib.Omega.{arith}
use lib.ListN.{length, get_or, take}
use lib.Seq.{take_at}
use Rattle.sets.specs.Lists.{peek}
use Rattle.grammar.specs.Card.{terminals, sizes_ok}
use Rattle.grammar.proofs.CardLaws.{well_formed}
use Rattle.card_checks.specs.Checked.{refusal_numbers, Checked}
use Rattle.card_checks.specs.declared.Refusal as card
use Rattle.std.proofs.Common.{Result, Ok, Err}
use Rattle.card_checks.proofs.Verdicts.{one_verdict, refusal_some, same_numbers, passes}
use Rattle.merged_card.specs.Merged.{merged_card}
use Rattle.merged_card.specs.Joined.{Joins}
use Rattle.merged_card.proofs.JoinedLaws.{merged_joins}
use Rattle.merge.specs.Answer.{answer_numbers, Passes, Joinable, Answers, first_refused, second_refused, terminals_differ, too_large, area_short, merged, area_after, Merges}
use Rattle.merge.specs.declared.Refusal.{Refusal}
use Rattle.merge.specs.declared.Refusal.TheVariants.{First, Second, TerminalsDiffer, TooLarge, AreaShort}
use Rattle.merge.proofs.AnswerLaws.{about_some}

-- a card that is refused does not pass
refused : {c : List ℕ} (e : card.Refusal) → Checked c (refusal_numbers e) → Passes c → ⊥
refused {c} e h p = let z = ap (λ (ns : List ℕ). get_or ns 0 0) (same_numbers c h p) in omega (arith, refusal_some e, z)

-- two refusals of a card are one
refused_once : {c : List ℕ} (e d : card.Refusal) (r : card.Refusal → Refusal) → Checked c (refusal_numbers e) → Checked c (refusal_numbers d) → ◌≡◌ {A = Result ℕ Refusal} (Err (r e)) (Err (r d))
refused_once {c} e d r h i = ap (λ (v : Result (Unit {0}) card.Refusal). of v) (one_verdict c (Err e) (Err d) h i)
  where
    of : Result (Unit {0}) card.Refusal → Result ℕ Refusal
    of (Ok u) = Ok 0
    of (Err e) = Err (r e)

module _ (a b : List ℕ) (room : ℕ) where
  one_first : {e : card.Refusal} {s : Result ℕ Refusal} → Checked a (refusal_numbers e) → Answers a b room s → Err (First e) ≡ s
  one_first {e} h (first_refused {e = d} i) = refused_once e d First h i
  one_first {e} h (second_refused p i) = absurd (refused e h p)
  one_first {e} h (terminals_differ p q y) = absurd (refused e h p)
  one_first {e} h (too_large j y) = absurd (refused e h j.first)
  one_first {e} h (area_short j s y) = absurd (refused e h j.first)
  one_first {e} h (merged j s y) = absurd (refused e h j.first)

  one_second : {e : card.Refusal} {s : Result ℕ Refusal} → Passes a → Checked b (refusal_numbers e) → Answers a b room s → Err (Second e) ≡ s
  one_second {e} p h (first_refused {e = d} i) = absurd (refused d i p)
  one_second {e} p h (second_refused {e = d} q i) = refused_once e d Second h i
  one_second {e} p h (terminals_differ p' q y) = absurd (refused e h q)
  one_second {e} p h (too_large j y) = absurd (refused e h j.second)
  one_second {e} p h (area_short j s y) = absurd (refused e h j.second)
  one_second {e} p h (merged j s y) = absurd (refused e h j.second)

  one_differ : {s : Result ℕ Refusal} → Passes a → Passes b → terminals a ≢ terminals b → Answers a b room s → Err TerminalsDiffer ≡ s
  one_differ p q z (first_refused {e = d} i) = absurd (refused d i p)
  one_differ p q z (second_refused {e = d} p' i) = absurd (refused d i q)
  one_differ p q z (terminals_differ p' q' y) = refl
  one_differ p q z (too_large j y) = absurd (z j.terminals_same)
  one_differ p q z (area_short j s y) = absurd (z j.terminals_same)
  one_differ p q z (merged j s y) = absurd (z j.terminals_same)

  -- the answers to cards to which no refusal before 5 of the merged card applies
  data Late : Result ℕ Refusal → Type 0 where
    large : sizes_ok (merged_card a b) ≡ false → Late (Err TooLarge)
    short : sizes_ok (merged_card a b) ≡ true → room < length (merged_card a b) → Late (Err AreaShort)
    fits : sizes_ok (merged_card a b) ≡ true → length (merged_card a b) ≤ room → Late (Ok (length (merged_card a b)))

  late : {s : Result ℕ Refusal} → Joinable a b → Answers a b room s → Late s
  late k (first_refused {e = d} i) = absurd (refused d i k.first)
  late k (second_refused {e = d} p i) = absurd (refused d i k.second)
  late k (terminals_differ p q y) = absurd (y k.terminals_same)
  late k (too_large j y) = large y
  late k (area_short j s y) = short s y
  late k (merged j s y) = fits s y

  one_late : {r s : Result ℕ Refusal} → Late r → Late s → r ≡ s
  one_late (large y) (large x) = refl
  one_late (large y) (short s x) = absurd (false≢true (sym y ∙ s))
  one_late (large y) (fits s x) = absurd (false≢true (sym y ∙ s))
  one_late (short s x) (large y) = absurd (false≢true (sym y ∙ s))
  one_late (short s y) (short t x) = refl
  one_late (short s y) (fits t x) = absurd (omega arith)
  one_late (fits s x) (large y) = absurd (false≢true (sym y ∙ s))
  one_late (fits s y) (short t x) = absurd (omega arith)
  one_late (fits s y) (fits t x) = refl

  pub one_answer : {r s : Result ℕ Refusal} → Answers a b room r → Answers a b room s → r ≡ s
  one_answer (first_refused h) s = one_first h s
  one_answer (second_refused p h) s = one_second p h s
  one_answer (terminals_differ p q z) s = one_differ p q z s
  one_answer (too_large j y) s = one_late (large y) (late j s)
  one_answer (area_short j t y) s = one_late (short t y) (late j s)
  one_answer (merged j t y) s = one_late (fits t y) (late j s)

module _ (a b old : List ℕ) where
  -- one answer, and one state of the area
  pub one_merge : {r s : Result ℕ Refusal} {new last : List ℕ} → Merges a b old r new → Merges a b old s last → (r ≡ s) × (new ≡ last)
  one_merge {r} {s} x y =
      let e : r ≡ s = one_answer a b (length old) x.answer y.answer in
      (e, x.area ∙ ap (area_after a b old) e ∙ sym y.area)

  -- the first n numbers of the area are then a card that joins the two
  pub area_joins : {n : ℕ} {new : List ℕ} → Merges a b old (Ok n) new → Joins a b (take n new)
  area_joins {n} {new} x = go x.answer refl x.area
    where
      number : Result ℕ Refusal → ℕ
      number r = peek (answer_numbers r)

      go : {r : Result ℕ Refusal} → Answers a b (length old) r → r ≡ Ok n → new ≡ area_after a b old (Ok n) → Joins a b (take n new)
      go (first_refused {e = d} i) h e = absurd (about_some 1 d (ap number h))
      go (second_refused {e = d} p i) h e = absurd (about_some 2 d (ap number h))
      go (terminals_differ p q y) h e = let z = ap number h in absurd (omega (arith, z))
      go (too_large j y) h e = let z = ap number h in absurd (omega (arith, z))
      go (area_short j s y) h e = let z = ap number h in absurd (omega (arith, z))
      go (merged j s y) h e =
          let p = passes a j.first in
          let q = passes b j.second in
          let k : length (merged_card a b) ≡ n = cc in
          let t : take (length (merged_card a b)) (area_after a b old (Ok n)) ≡ merged_card a b = take_at (merged_card a b) _ (length (merged_card a b)) refl in
          rw (e, sym k, t) (merged_joins a b (well_formed a p.0) (well_formed b q.0) j.terminals_same s p.1 q.1)
