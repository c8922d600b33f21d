-- The paper's number and values of each answer, and the contract of the maker.
use Rattle.std.specs.Prelude.{ℕ, ◌≡◌, List, [], ◌∷◌, Result, Ok, Err}
use Rattle.card_checks.specs.Checked.{refusal_numbers}
use Rattle.lalr.specs.Answer.{Generated, numbers_of}
use Rattle.generator.specs.declared.Refusal.{Refusal}
use Rattle.generator.specs.declared.Refusal.TheVariants.{TableShort, WordsShort, HalvesShort, Card, ManyStates, ManyTransitions, Conflict}

-- "1: table area too short. 2, 3: first, second work area too short." 4 to 10 are the card's. "11: more than 256 states. 12: more than 2,048 name moves.
-- 13: two actions meet in a cell; it names the lowest state and, in it, the lowest mark, then the two lowest cell values that meet"; 0 stands for a table
abbrev pub numbers : Result (Unit {0}) Refusal → List ℕ
numbers (Ok u) = 0 ∷ []
numbers (Err TableShort) = 1 ∷ []
numbers (Err WordsShort) = 2 ∷ []
numbers (Err HalvesShort) = 3 ∷ []
numbers (Err (Card e)) = refusal_numbers e
numbers (Err ManyStates) = 11 ∷ []
numbers (Err ManyTransitions) = 12 ∷ []
numbers (Err (Conflict e)) = 13 ∷ e.state ∷ e.terminal ∷ e.lower ∷ e.upper ∷ []

-- the answer and the three areas at exit are those of the definition; no two of its answers have the same numbers (`numbers_one` of crates/lalr)
pub record GeneratesAs (g : Generated) (r : Result (Unit {0}) Refusal) (t z w : List ℕ) : Type 0 where
  pub answer : numbers r ≡ numbers_of g.answer
  pub table : t ≡ g.table
  pub words : z ≡ g.words
  pub halves : w ≡ g.halves
