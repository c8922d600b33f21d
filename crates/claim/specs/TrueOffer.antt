-- The offer in the grammar's words.
use Rattle.std.specs.Prelude.{ℕ, ◌≢◌, ◌↔◌, List, [], ◌∷◌, ◌++◌}
use Rattle.sets.specs.Bit.{Has}
use Rattle.grammar.specs.Grammar.{Grammar, Sentence}
use Rattle.grammar.specs.Prefix.{Begins}

-- "the offer holds exactly the marks m for which the line before the place, followed by m, begins a sentence, and 0 if that line is a sentence"
pub record TrueOffer (g : Grammar) (line : List ℕ) (word : ℕ) : Type 0 where
  pub followers : (m : ℕ) → m ≢ 0 → Has word m ↔ Begins g (line ++ m ∷ [])
  pub end : Has word 0 ↔ Sentence g line
