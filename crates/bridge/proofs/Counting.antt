-- The count of nonterminal transitions that refusal 12 tests is the definition's.
use Prim.Native.Nat.{ℕ, zero, suc, ◌+◌}
use mathlib.Core.Path.{◌≡◌, refl, sym, ap₂, ◌∙◌}
use mathlib.Core.Bool.{not}
use mathlib.Core.List.{List, [], ◌∷◌, ◌++◌}
use native.Mathlib.Omega.{arith}
use native.Mathlib.Nat.{add_comm}
use lib.Dec.{eqb, eqb-suc-zero}
use Rattle.sets.specs.Bit.{count, one_if}
use Rattle.sets.specs.Lists.{each}
use Rattle.grammar.specs.Card.{terminals, nonterminals, grammar_of}
use Rattle.lr.specs.States.{count_transitions, nonterminal_transitions}
use Rattle.transitions.specs.Next.{transition_count}

count_append : (a b : List ℕ) → count_transitions (a ++ b) ≡ count_transitions a + count_transitions b
count_append [] b = omega arith
count_append (zero ∷ a) b = count_append a b
count_append (suc x ∷ a) b = omega (arith, count_append a b)

count_one : (x : ℕ) → count_transitions (x ∷ []) ≡ one_if (not (eqb x 0))
count_one zero = refl
count_one (suc x) = rw eqb-suc-zero

count_each : (f : ℕ → ℕ) (n : ℕ) → count_transitions (each n (λ x. f x ∷ [])) ≡ count (λ x. not (eqb (f x) 0)) n
unfolding count
count_each f zero = refl
count_each f (suc n) =
    count_append (each n (λ x. f x ∷ [])) (f n ∷ []) ∙ ap₂ (λ (x y : ℕ). x + y) (count_each f n) (count_one (f n))
    ∙ add_comm (count (λ x. not (eqb (f x) 0)) n) (one_if (not (eqb (f n) 0)))

pub transition_count_is : (c : List ℕ) (next : ℕ → ℕ → ℕ) (n : ℕ) → transition_count c next n ≡ nonterminal_transitions (grammar_of c) n next
unfolding transition_count
transition_count_is c next zero = refl
transition_count_is c next (suc n) =
    ap₂ (λ (x y : ℕ). x + y) (transition_count_is c next n) (sym (count_each (λ x. next n (terminals c + x)) (nonterminals c)))
    ∙ sym (count_append (each n (λ q. each (nonterminals c) (λ x. next q (terminals c + x) ∷ []))) (each (nonterminals c) (λ x. next n (terminals c + x) ∷ [])))
