-- How many numbers an answer has is told by the first of them. Those of a refusal are five at most, and the first of the five that the maker gives.
use mathlib.Core.Path.{◌≡◌, refl, sym, ap, ◌∙◌}
use mathlib.Core.Bool.{cond}
use mathlib.Core.List.{List, []}
use Prim.Native.Nat.{ℕ, ◌≤◌}
use native.Mathlib.Omega.{arith}
use lib.ListN.{length, get_or, take}
use lib.Dec.{eqb}
use lib.Seq.{take_at}
use Rattle.sets.specs.Lists.{covered}
use Rattle.card_checks.specs.declared.Refusal.TheVariants.{CardShort, SizesWrong, LengthWrong, LeftWrong, SumWrong, SymbolWrong, Useless}
use Rattle.std.specs.Prelude.{Result, Ok, Err}
use Rattle.generator.specs.declared.Refusal.{Refusal}
use Rattle.generator.specs.declared.Refusal.TheVariants.{TableShort, WordsShort, HalvesShort, Card, ManyStates, ManyTransitions, Conflict}
use Rattle.generator.specs.Answer.{numbers}

abbrev pub count_of : ℕ → ℕ
count_of n = cond (eqb n 10) 2 (cond (eqb n 13) 5 1)

counted : (a : Result (Unit {0}) Refusal) → count_of (get_or (numbers a) 0 0) ≡ length (numbers a)
counted (Ok u) = refl
counted (Err TableShort) = refl
counted (Err WordsShort) = refl
counted (Err HalvesShort) = refl
counted (Err (Card CardShort)) = refl
counted (Err (Card SizesWrong)) = refl
counted (Err (Card LengthWrong)) = refl
counted (Err (Card LeftWrong)) = refl
counted (Err (Card SumWrong)) = refl
counted (Err (Card SymbolWrong)) = refl
counted (Err (Card (Useless x))) = refl
counted (Err ManyStates) = refl
counted (Err ManyTransitions) = refl
counted (Err (Conflict r)) = refl

pub by_first : {n k : ℕ} → count_of n ≡ k → (a : Result (Unit {0}) Refusal) → get_or (numbers a) 0 0 ≡ n → k ≡ length (numbers a)
by_first e a h = sym e ∙ ap count_of (sym h) ∙ counted a

pub few : (r : Refusal) → length (numbers (Err r)) ≤ 5
few TableShort = omega arith
few WordsShort = omega arith
few HalvesShort = omega arith
few (Card CardShort) = omega arith
few (Card SizesWrong) = omega arith
few (Card LengthWrong) = omega arith
few (Card LeftWrong) = omega arith
few (Card SumWrong) = omega arith
few (Card SymbolWrong) = omega arith
few (Card (Useless x)) = omega arith
few ManyStates = omega arith
few ManyTransitions = omega arith
few (Conflict r) = omega arith

pub those : (a : Result (Unit {0}) Refusal) (n : List ℕ) (k : ℕ) → n ≡ covered 5 (numbers a) [] → k ≡ length (numbers a) → take k n ≡ numbers a
unfolding covered
those a n k e f = rw (e, f) (take_at (numbers a) _ _ refl)
