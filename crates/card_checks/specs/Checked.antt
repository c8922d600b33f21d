-- What the checks 4 to 10 say of a card, by the paper's numbers and values.
use Rattle.std.specs.Prelude.{ℕ, ◌≡◌, ◌≢◌, List, [], ◌∷◌, Result, Ok, Err}
use Rattle.grammar.specs.Card.{form_fault, grammar_of}
use Rattle.grammar.specs.Useful.{Useful, Nonterminal, LowestUseless}
use Rattle.card_checks.specs.declared.Refusal.{Refusal}
use Rattle.card_checks.specs.declared.Refusal.TheVariants.{CardShort, SizesWrong, LengthWrong, LeftWrong, SumWrong, SymbolWrong, Useless}

-- "4: card under 4 numbers. 5: a size outside its limits. 6: card length other than 4 + 2 × P + L. 7: a left side that is no name.
-- 8: lengths that do not add up to L. 9: a right-side symbol that is 0 or at least T+N. 10, with the lowest such name: .."
abbrev pub refusal_numbers : Refusal → List ℕ
refusal_numbers CardShort = 4 ∷ []
refusal_numbers SizesWrong = 5 ∷ []
refusal_numbers LengthWrong = 6 ∷ []
refusal_numbers LeftWrong = 7 ∷ []
refusal_numbers SumWrong = 8 ∷ []
refusal_numbers SymbolWrong = 9 ∷ []
refusal_numbers (Useless x) = 10 ∷ x ∷ []

-- 0 where none applies
abbrev pub verdict_numbers : Result (Unit {0}) Refusal → List ℕ
verdict_numbers (Ok u) = 0 ∷ []
verdict_numbers (Err e) = refusal_numbers e

-- the verdict on a card, for any numbers and any length; each card has one (`one_verdict` of proofs/Verdicts.antt)
pub data Checked (c : List ℕ) : List ℕ → Type 0 where
  -- the first of 4 to 9 that applies
  malformed : form_fault c ≢ 0 → Checked c (form_fault c ∷ [])
  -- "a name not reached from the start, or deriving no string of marks"
  useless : {x : ℕ} → form_fault c ≡ 0 → Nonterminal (grammar_of c) x → LowestUseless (grammar_of c) x → Checked c (10 ∷ x ∷ [])
  passed : form_fault c ≡ 0 → ((x : ℕ) → Nonterminal (grammar_of c) x → Useful (grammar_of c) x) → Checked c (0 ∷ [])
