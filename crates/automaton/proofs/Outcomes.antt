-- The answer of crate `states` in the words of the definition.
use mathlib.Core.List.{List}
use mathlib.Core.Path.{◌≡◌}
use Prim.Native.Nat.{ℕ}
use Rattle.std.specs.Prelude.{Option}
use Rattle.automaton.proofs.FoundStates.{found_states, more_states}
use Rattle.automaton.specs.Outcome.{Outcome, few, many}
use Rattle.grammar.proofs.CardLaws.{well_formed}
use Rattle.grammar.specs.Card.{grammar_of, form_fault}
use Rattle.lr.proofs.ItemLaws.{AllProductive}
use Rattle.states.specs.States.{Stated, finished, beyond}

pub outcome : (c z₀ t₀ z t : List ℕ) (r : Option ℕ) → form_fault c ≡ 0 → AllProductive (grammar_of c) → Stated c z₀ t₀ z t r → Outcome c t r
outcome c z₀ t₀ z t _ e pr (finished n T) = few n T.most (found_states c (well_formed c e) pr z₀ t₀ z n t T)
outcome c z₀ t₀ z t _ e pr (beyond z₁ n t₁ q T h x) = many (more_states c (well_formed c e) pr z₀ t₀ z₁ n t₁ q z t T h x)
