-- Beginnings of sentences, and the place at which an input stops being one.
use Rattle.std.specs.Prelude.{ℕ, suc, ◌≤◌, ◌<◌, ◌≡◌, List, ◌++◌, length, take}
use Rattle.grammar.specs.Grammar.{Grammar, Sentence}

-- "Marks begin a sentence if some marks after them, perhaps none, complete one."
pub record Begins (g : Grammar) (u : List ℕ) : Type 0 where
  pub completion : List ℕ
  pub whole : Sentence g (u ++ completion)

-- "the first place where the marks so far, that one included, begin no sentence, or the end exactly when the whole line begins one and is none";
-- places count from 0, and the end is the number of terminals
pub data ErrorPosition (g : Grammar) (w : List ℕ) (i : ℕ) : Type 0 where
  at_terminal : i < length w → ((j : ℕ) → j ≤ i → Begins g (take j w)) → (Begins g (take (suc i) w) → ⊥) → ErrorPosition g w i
  at_end_is : i ≡ length w → Begins g w → (Sentence g w → ⊥) → ErrorPosition g w i
