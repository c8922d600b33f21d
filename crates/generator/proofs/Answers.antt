-- The numbers of an answer tell which answer it is.
use mathlib.Core.Path.{◌≡◌, refl, sym, ap, ◌∙◌}
use mathlib.Core.List.{List, [], ◌∷◌}
use Prim.Native.Nat.{ℕ}
use native.Mathlib.Omega.{arith}
use lib.ListN.{get_or}
use Rattle.sets.specs.Lists.{covered}
use Rattle.card_checks.specs.Checked.{refusal_numbers}
use Rattle.card_checks.specs.declared.Refusal as card
use Rattle.card_checks.specs.declared.Refusal.TheVariants.{CardShort, SizesWrong, LengthWrong, LeftWrong, SumWrong, SymbolWrong, Useless}
use Rattle.card_checks.proofs.Verdicts.{refusal_some}
use Rattle.lalr.specs.Answer.{made, numbers_of}
use Rattle.lalr.specs.ComputedGenerator.{generated}
use Rattle.lalr.proofs.AnswerLaws.{made_by_number}
use Rattle.std.proofs.Common.{Result, Ok, Err}
use Rattle.generator.specs.declared.Refusal.{Refusal}
use Rattle.generator.specs.declared.Refusal.TheVariants.{TableShort, WordsShort, HalvesShort, Card, ManyStates, ManyTransitions, Conflict}
use Rattle.generator.specs.Answer.{numbers, GeneratesAs}

-- ---- the numbers with zeros behind them

two_of_five : (e : card.Refusal) → (let n = covered 2 (refusal_numbers e) [] in get_or n 0 0 ∷ get_or n 1 0 ∷ 0 ∷ 0 ∷ 0 ∷ []) ≡ covered 5 (refusal_numbers e) []
unfolding covered
two_of_five CardShort = refl
two_of_five SizesWrong = refl
two_of_five LengthWrong = refl
two_of_five LeftWrong = refl
two_of_five SumWrong = refl
two_of_five SymbolWrong = refl
two_of_five (Useless x) = refl

-- of a refusal of the card, whose numbers are two
pub card_told : (e : card.Refusal) (n : List ℕ) → n ≡ covered 2 (refusal_numbers e) [] → get_or n 0 0 ∷ get_or n 1 0 ∷ 0 ∷ 0 ∷ 0 ∷ [] ≡ covered 5 (refusal_numbers e) []
card_told e n k = rw k (two_of_five e)

-- ---- a table, or none

pub only_table : (a : Result (Unit {0}) Refusal) → get_or (numbers a) 0 0 ≡ 0 → a ≡ Ok tt
only_table (Ok u) e = refl
only_table (Err TableShort) e = absurd (omega arith)
only_table (Err WordsShort) e = absurd (omega arith)
only_table (Err HalvesShort) e = absurd (omega arith)
only_table (Err (Card e)) h = absurd (omega (arith, refusal_some e))
only_table (Err ManyStates) e = absurd (omega arith)
only_table (Err ManyTransitions) e = absurd (omega arith)
only_table (Err (Conflict r)) e = absurd (omega arith)

module _ (t₀ z₀ w₀ c : List ℕ) {a : Result (Unit {0}) Refusal} {t z w : List ℕ} (g : GeneratesAs (generated t₀ z₀ w₀ c) a t z w) where
  pub table_is_made : a ≡ Ok tt → (generated t₀ z₀ w₀ c).answer ≡ made
  table_is_made e = made_by_number t₀ z₀ w₀ c (sym g.answer ∙ ap numbers e)

  pub made_is_table : (generated t₀ z₀ w₀ c).answer ≡ made → a ≡ Ok tt
  made_is_table e = only_table a (ap (λ (ns : List ℕ). get_or ns 0 0) (g.answer ∙ ap numbers_of e))
