-- The refusals 1 to 10 and their areas, which stay as they were; each card has a verdict.
use mathlib.Core.Path.{◌≡◌, refl, sym}
use mathlib.Core.Logic.{◌≢◌}
use mathlib.Core.List.{List, ◌∷◌, []}
use Prim.Native.Nat.{ℕ, zero, suc, ◌≤◌, ◌<◌}
use native.Mathlib.Omega.{arith}
use lib.ListN.{length, get_or}
use borrow.Author.Tests.{le-ltb}
use Rattle.grammar.specs.Card.{form_fault, grammar_of}
use Rattle.grammar.proofs.CardLaws.{fault_most}
use Rattle.areas.specs.Areas.{table_size, words_size, halves_size}
use Rattle.card_checks.specs.Checked.{refusal_numbers, verdict_numbers, Checked, malformed, useless, passed}
use Rattle.card_checks.specs.declared.Refusal as card
use Rattle.card_checks.specs.declared.Refusal.TheVariants.{Useless}
use Rattle.std.proofs.Common.{Result, Ok, Err, IsErrAnd}
use Rattle.card_checks.proofs.Verdicts.{Numbered, none, some, fault_is, refusal_of, same_number, first_fault, refusal_some, passes}
use Rattle.lalr.specs.Answer.{refused, useless_at}
use Rattle.lalr.specs.Answer as definition
use Rattle.lalr.specs.ComputedAnswer.{card_answer}
use Rattle.lalr.specs.ComputedGenerator.{generated}
use Rattle.lalr.specs.Demand2.{Room}
use Rattle.lalr.specs.Meaning.{AllUseful, Judged}
use Rattle.lalr.proofs.Main.{card_answer_is}
use Rattle.lalr.proofs.Finish.{by_card, short_table, short_words, short_halves}
use Rattle.generator.specs.declared.Refusal.{Refusal}
use Rattle.generator.specs.declared.Refusal.TheVariants.{TableShort, WordsShort, HalvesShort, Card}
use Rattle.generator.specs.Answer.{GeneratesAs}
use Rattle.generator.proofs.Laws.{keeps, useless_answer}

module _ (t z w c : List ℕ) where
  pub first : length t < table_size → GeneratesAs (generated t z w c) (Err TableShort) t z w
  first h = keeps t z w c (refused 1) (Err TableShort) (short_table t z w c h) refl refl

  pub second : table_size ≤ length t → length z < words_size → GeneratesAs (generated t z w c) (Err WordsShort) t z w
  second h k = keeps t z w c (refused 2) (Err WordsShort) (short_words t z w c h k) refl refl

  pub third : table_size ≤ length t → words_size ≤ length z → length w < halves_size → GeneratesAs (generated t z w c) (Err HalvesShort) t z w
  third h k l = keeps t z w c (refused 3) (Err HalvesShort) (short_halves t z w c h k l) refl refl

  faulty : (n : ℕ) → form_fault c ≡ n → n ≢ 0 → card_answer c ≡ refused n
  faulty zero e h = absurd (h refl)
  faulty (suc n) e h = rw (e, card_answer) refl

  -- 4 to 10
  refused_card : (e : card.Refusal) → Checked c (refusal_numbers e) → Room t z w → GeneratesAs (generated t z w c) (Err (Card e)) t z w
  refused_card e k o = go k refl
    where
      go : {ns : List ℕ} → Checked c ns → ns ≡ refusal_numbers e → GeneratesAs (generated t z w c) (Err (Card e)) t z w
      go (malformed h) q =
          keeps t z w c (refused (form_fault c)) (Err (Card e)) (by_card t z w c o (refused (form_fault c)) (faulty (form_fault c) refl h)) (le-ltb 10 (form_fault c) (omega (arith, fault_most c))) (sym q)
      go (useless {x} f n l) q = keeps t z w c (useless_at x) (Err (Card e)) (useless_answer t z w c x o f l n.below) refl (sym q)
      go (passed f u) q = let h : get_or (refusal_numbers e) 0 0 ≡ 0 = rw (← q) refl in absurd (omega (arith, refusal_some e))

  pub card_refused : (e : card.Refusal) (r : Result (Unit {0}) Refusal) → IsErrAnd r (λ d. d ≡ Card e) → Checked c (refusal_numbers e) → Room t z w → GeneratesAs (generated t z w c) r t z w
  card_refused e (Ok u) h k o = absurd h
  card_refused e (Err d) h k o = rw h (refused_card e k o)

-- a card past 4 to 10
pub checked : (c : List ℕ) → Checked c (0 ∷ []) → (form_fault c ≡ 0) × AllUseful (grammar_of c)
checked c k = let p = passes c k in (p.0, record { each_nonterminal = p.1 })

-- ---- each card has a verdict; that it has not two is `one_verdict` of crates/card_checks

module _ (c : List ℕ) where
  judged_verdict : form_fault c ≡ 0 → {a : definition.Answer} → Judged (grammar_of c) a → (r : Result (Unit {0}) card.Refusal) × Checked c (verdict_numbers r)
  judged_verdict f (Judged.useless {x} n u l) =
      (Err (Useless x), useless f n (record { from = n.from; to = omega (arith, n.below); before = λ y h k. l y (record { from = h; below = omega (arith, n.below) }) k; here = λ h. u }))
  judged_verdict f (Judged.many u m) = (Ok tt, passed f u.each_nonterminal)
  judged_verdict f (Judged.wide count next u s k w) = (Ok tt, passed f u.each_nonterminal)
  judged_verdict f (Judged.clash count next s k) = (Ok tt, passed f s.useful.each_nonterminal)
  judged_verdict f (Judged.fine count next s k) = (Ok tt, passed f s.useful.each_nonterminal)

  pub some_verdict : (r : Result (Unit {0}) card.Refusal) × Checked c (verdict_numbers r)
  some_verdict = go (fault_is c) refl
    where
      go : {n : ℕ} → Numbered n → form_fault c ≡ n → (r : Result (Unit {0}) card.Refusal) × Checked c (verdict_numbers r)
      go none e = judged_verdict e ((card_answer_is c e (card_answer c)).0 refl)
      go (some f) e = (Err (refusal_of f), first_fault c f (Err (refusal_of f)) (sym e) (same_number f))
