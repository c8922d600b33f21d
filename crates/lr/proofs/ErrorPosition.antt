-- The stack of states of a path, and the position where an input stops beginning a sentence.
use Prim.Native.Nat.{ℕ, suc, ◌+◌, ◌≤◌}
use mathlib.Core.Path.{◌≡◌, refl, ap, sym}
use mathlib.Core.List.{List, [], ◌∷◌, ◌++◌, append_assoc, append-nil}
use lib.ListN.{length, drop, take, length-append, take-append-drop}
use lib.Seq.{take-append-le}
use native.Mathlib.Omega.{arith}
use Rattle.grammar.specs.Grammar.{Grammar, none, Sentence}
use Rattle.grammar.proofs.Yield.{yield_terminals}
use Rattle.sets.specs.Lists.{peek}
use Rattle.lr.proofs.ItemLaws.{Extends, extended, drop_next}
use Rattle.grammar.proofs.Derive.{yields_rightmost, rightmost_derives}
use Rattle.lr.proofs.Automaton.{walk}
use Rattle.lr.proofs.MachineLaws.{Stopped, stopped}
pub use Rattle.grammar.specs.Prefix.{Begins, ErrorPosition, at_terminal, at_end_is}

abbrev pub top : List ℕ → ℕ
top [] = 0
top (q ∷ qs) = q

-- the stack of states of a path
abbrev pub stack : (ℕ → ℕ → ℕ) → ℕ → List ℕ → List ℕ → List ℕ
stack next q [] acc = q ∷ acc
stack next q (x ∷ γ) acc = stack next (next q x) γ (q ∷ acc)

pub stack_snoc : (next : ℕ → ℕ → ℕ) (q : ℕ) (γ acc : List ℕ) (x : ℕ) → stack next q (γ ++ x ∷ []) acc ≡ walk next q (γ ++ x ∷ []) ∷ stack next q γ acc
stack_snoc next q [] acc x = refl
stack_snoc next q (y ∷ γ) acc x = stack_snoc next (next q y) γ (q ∷ acc) x

pub stack_top : (next : ℕ → ℕ → ℕ) (q : ℕ) (γ acc : List ℕ) → top (stack next q γ acc) ≡ walk next q γ
stack_top next q [] acc = refl
stack_top next q (y ∷ γ) acc = stack_top next (next q y) γ (q ∷ acc)

pub stack_drop : (next : ℕ → ℕ → ℕ) (q : ℕ) (β acc : List ℕ) → drop (length β) (stack next q β acc) ≡ q ∷ acc
stack_drop next q [] acc = refl
stack_drop next q (y ∷ β) acc = drop_next (length β) (stack next (next q y) β (q ∷ acc)) (stack_drop next (next q y) β (q ∷ acc))

pub stack_pop : (next : ℕ → ℕ → ℕ) (q : ℕ) (α β acc : List ℕ) → drop (length β) (stack next q (α ++ β) acc) ≡ stack next q α acc
stack_pop next q [] β acc = stack_drop next q β acc
stack_pop next q (y ∷ α) β acc = stack_pop next (next q y) α β (q ∷ acc)

pub extends_begins : (g : Grammar) {u : List ℕ} → Extends g u → Begins g u
extends_begins g (extended z y) = record { completion = z; whole = record { terminals = yield_terminals g y; derived = rightmost_derives g (simp append-nil at (yields_rightmost g [] [] none y)) } }

pub begins_front : (g : Grammar) (u v : List ℕ) → Begins g (u ++ v) → Begins g u
begins_front g u v b = record { completion = v ++ b.completion; whole = rw append_assoc at b.whole }

pub take_append_one : (u : List ℕ) (a : ℕ) (y : List ℕ) → take (suc (length u)) (u ++ a ∷ y) ≡ u ++ a ∷ []
take_append_one [] a y = refl
take_append_one (b ∷ u) a y = ap (λ (l : List ℕ). b ∷ l) (take_append_one u a y)

pub place_of : (g : Grammar) {w x : List ℕ} → Stopped g x w → (i : ℕ) × (i + length x ≡ length w) × (Sentence g w → ⊥) × ErrorPosition g w i
place_of g {x = x} (stopped u b k) = (length u, sym (length-append u x), k x refl, go x k)
  where
    front : (y : List ℕ) (j : ℕ) → j ≤ length u → Begins g (take j (u ++ y))
    front y j h = rw (take-append-le j u y h) (begins_front g (take j u) (drop j u) (rw take-append-drop (extends_begins g b)))

    go : (y : List ℕ) → ((z : List ℕ) → peek z ≡ peek y → Sentence g (u ++ z) → ⊥) → ErrorPosition g (u ++ y) (length u)
    go [] k = at_end_is (rw append-nil) (rw append-nil (extends_begins g b)) (k [] refl)
    go (a ∷ y) k =
        at_terminal (omega (arith, length-append u (a ∷ y))) (front (a ∷ y))
        (λ t. let t' : Begins g (u ++ a ∷ []) = rw take_one at t in k (a ∷ t'.completion) refl (rw append_assoc at t'.whole))
      where
        take_one : take (suc (length u)) (u ++ a ∷ y) ≡ u ++ a ∷ []
        take_one = take_append_one u a y
