-- Demand 3 for a choir's reading (card 10): "it holds with the closed marks taken as this card says, a closed mark being named where it stands even if the marks so
-- far begin a sentence".
use Rattle.std.specs.Prelude.{ℕ, suc, ◌≡◌, ◌≢◌, ◌↔◌, ◌⊎◌, List, [], ◌∷◌, ◌++◌, reverse, length, take}
use Rattle.sets.specs.Bit.{bit, Has, count}
use Rattle.grammar.specs.Grammar.{Grammar, Sentence, Rightmost}
use Rattle.grammar.specs.Prefix.{Begins, ErrorPosition}
use Rattle.machine.specs.Checks.{TableRefusal, RestrictedRefusal}
use Rattle.machine.specs.Restricted.{Open, OpenLine, FirstClosed}
use Rattle.machine.specs.Report.{Reading, number_of, position_of, productions_of, expected_of, size_of}

-- "takes the line and does not run out of moves, stack or list": the answer is no refusal, and none of 32, 33, 34
pub record RestrictedSettled (n : ℕ) : Type 0 where
  pub taken : RestrictedRefusal n → ⊥
  pub steps_left : n ≢ 32
  pub stack_left : n ≢ 33
  pub list_left : n ≢ 34

-- the place that is named: the first where a closed terminal stands or the terminals so far, that one included, begin no sentence; or the end.
-- "Begins a sentence" is of any sentence of the grammar, with closed terminals or without
pub data RestrictedPosition (g : Grammar) (closed : ℕ) (input : List ℕ) (i : ℕ) : Type 0 where
  at_closed : FirstClosed closed input i → Begins g (take i input) → RestrictedPosition g closed input i
  -- no closed terminal stands there or before: the publisher's place
  elsewhere : OpenLine closed (take (suc i) input) → ErrorPosition g input i → RestrictedPosition g closed input i

-- the offer: the publisher's `TrueOffer`, of open terminals alone
pub record RestrictedOffer (g : Grammar) (closed : ℕ) (line : List ℕ) (word : ℕ) : Type 0 where
  pub followers : (m : ℕ) → m ≢ 0 → Has word m ↔ (Open closed m × Begins g (line ++ m ∷ []))
  pub end : Has word 0 ↔ Sentence g line

pub record RestrictedDemand3 (g : Grammar) (closed : ℕ) (input : List ℕ) (r : Reading) : Type 0 where
  pub table_taken : TableRefusal (number_of r) → ⊥
  pub never_breaks : number_of r ≢ 35
  -- "accepted only if it is derived and has no closed mark"
  pub accepts : RestrictedSettled (number_of r) → (number_of r ≡ 0) ↔ (Sentence g input × OpenLine closed input)
  pub derivation : number_of r ≡ 0 → Rightmost g (g.terminals ∷ []) (reverse (productions_of r)) input
  pub only : number_of r ≡ 0 → (p : List ℕ) → Rightmost g (g.terminals ∷ []) p input → p ≡ reverse (productions_of r)
  pub names_position : RestrictedSettled (number_of r) → number_of r ≢ 0 → ((number_of r ≡ 31) ⊎ (number_of r ≡ 46)) × RestrictedPosition g closed input (position_of r)
  pub names_end : RestrictedSettled (number_of r) → number_of r ≢ 0 → (position_of r ≡ length input) ↔ (OpenLine closed input × Begins g input × (Sentence g input → ⊥))
  pub offers : number_of r ≡ 31 → RestrictedOffer g closed (take (position_of r) input) (expected_of r)
  pub offers_many : number_of r ≡ 31 → size_of r ≡ count (bit (expected_of r)) g.terminals
