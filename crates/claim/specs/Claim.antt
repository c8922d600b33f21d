-- Demand 3: what a reading's answer says of the grammar and the input, with the offer as card 5 has it.
use Rattle.std.specs.Prelude.{ℕ, ◌≡◌, ◌≢◌, ◌↔◌, ◌⊎◌, List, [], ◌∷◌, reverse, length, take}
use Rattle.sets.specs.Bit.{bit, count}
use Rattle.grammar.specs.Grammar.{Grammar, Sentence, Rightmost}
use Rattle.grammar.specs.Prefix.{Begins, ErrorPosition}
use Rattle.machine.specs.Checks.{TableRefusal, Refusal}
use Rattle.machine.specs.Report.{Reading, number_of, position_of, productions_of, expected_of, size_of}
use Rattle.claim.specs.TrueOffer.{TrueOffer}

-- "takes the line and does not run out of moves, stack or list": the answer is no refusal, and none of 32, 33, 34
pub record Settled (n : ℕ) : Type 0 where
  pub taken : Refusal n → ⊥
  pub steps_left : n ≢ 32
  pub stack_left : n ≢ 33
  pub list_left : n ≢ 34

pub record Demand3 (g : Grammar) (input : List ℕ) (r : Reading) : Type 0 where
  -- "with the maker's table 35 never comes, nor do 21 to 24", and 44 "never comes with the maker's table"
  pub table_taken : TableRefusal (number_of r) → ⊥
  pub never_breaks : number_of r ≢ 35
  -- "it accepts exactly when the grammar derives the line"
  pub accepts : Settled (number_of r) → (number_of r ≡ 0) ↔ Sentence g input
  -- "the rules it lists, backwards, are a rightmost derivation and its only one"
  pub derivation : number_of r ≡ 0 → Rightmost g (g.terminals ∷ []) (reverse (productions_of r)) input
  pub only : number_of r ≡ 0 → (p : List ℕ) → Rightmost g (g.terminals ∷ []) p input → p ≡ reverse (productions_of r)
  -- "where it does not accept, it names the first place where the marks so far, that one included, begin no sentence,
  -- or the end exactly when the whole line begins one and is none"; 46 comes "in place of 31 .., carrying place and count"
  pub names_position : Settled (number_of r) → number_of r ≢ 0 → ((number_of r ≡ 31) ⊎ (number_of r ≡ 46)) × ErrorPosition g input (position_of r)
  pub names_end : Settled (number_of r) → number_of r ≢ 0 → (position_of r ≡ length input) ↔ (Begins g input × (Sentence g input → ⊥))
  -- "the offer holds exactly the marks m for which the line before the place, followed by m, begins a sentence, and 0 if that line is a sentence",
  -- "and how many they are"
  pub offers : number_of r ≡ 31 → TrueOffer g (take (position_of r) input) (expected_of r)
  pub offers_many : number_of r ≡ 31 → size_of r ≡ count (bit (expected_of r)) g.terminals
