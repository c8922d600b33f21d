-- An answer as three numbers: number, card, value, and zeros for what it does not have.
use Rattle.std.specs.Prelude.{ℕ, ◌≡◌, List, [], Result}
use Rattle.sets.specs.Lists.{covered}
use Rattle.merge.specs.Answer.{answer_numbers, Merges}
use Rattle.merge.specs.declared.Refusal.{Refusal}

-- the three numbers and the area after the call are those of the merge of a and b
pub record WritesOut (a b old out new : List ℕ) : Type 0 where
  pub answer : Result ℕ Refusal
  pub numbers : out ≡ covered 3 (answer_numbers answer) []
  pub merges : Merges a b old answer new
