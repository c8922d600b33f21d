-- The right sides of a card, symbol by symbol.
use Prim.Native.Nat.{ℕ, suc, ◌+◌, ◌≤◌, ◌<◌}
use mathlib.Core.Path.{◌≡◌, sym, ap, ◌∙◌}
use mathlib.Core.List.{List, [], ◌∷◌}
use lib.ListN.{length, get_or, drop, length-drop}
use native.Mathlib.Omega.{arith}
use native.Mathlib.Decide.{ℕ_discrete}
use Rattle.sets.proofs.ListLaws.{ones_at}
use Rattle.grammar.specs.Card.{productions, length_of, symbol_of, start_of, right_of}
use Rattle.grammar.proofs.CardLaws.{right_is, right_length}
use Rattle.lr.proofs.ItemLaws.{drop_next, first_at}
use Rattle.grammar.proofs.Closed.{All, none, more}
use Rattle.transitions.specs.Occurrences.{symbol_at}

module _ (c : List ℕ) (r : ℕ) (h : r < productions c) where
  pub right_symbol : (d : ℕ) → d < length_of c r → get_or (right_of c r) d 0 ≡ symbol_at c r d
  unfolding symbol_at
  right_symbol d k =
      ap (λ (l : List ℕ). get_or l d 0) (right_is c r h) ∙ ones_at (length_of c r) (λ i. symbol_of c (start_of c r + i)) d k

  -- what stands behind a dot: nothing, or the dot's symbol
  pub dot_end : (d : ℕ) → drop d (right_of c r) ≡ [] → length_of c r ≤ d
  dot_end d e = omega (arith, right_length c r h, length-drop d (right_of c r), ap length e)

  pub dot_below : (d : ℕ) {x : ℕ} {β : List ℕ} → drop d (right_of c r) ≡ x ∷ β → d < length_of c r
  dot_below d {β = β} e = let n : length (drop d (right_of c r)) ≡ suc (length β) = ap length e in omega (arith, right_length c r h, length-drop d (right_of c r))

  pub dot_symbol : (d : ℕ) {x : ℕ} {β : List ℕ} → drop d (right_of c r) ≡ x ∷ β → symbol_at c r d ≡ x
  dot_symbol d e = sym (right_symbol d (dot_below d e)) ∙ first_at d (right_of c r) e

  -- a property of every symbol from a dot on, by index and by list
  module _ (P : ℕ → Type 0) where
    pub list_all : (d : ℕ) (β : List ℕ) → drop d (right_of c r) ≡ β → ((i : ℕ) → d ≤ i → i < length_of c r → P (symbol_at c r i)) → All P β
    list_all d [] e f = none
    list_all d (x ∷ β) e f = more (rw (dot_symbol d e) at (f d (omega arith) (dot_below d e))) (list_all (suc d) β (drop_next d (right_of c r) e) (λ i l k. f i (omega arith) k))

    pub all_list : (d : ℕ) {β : List ℕ} → drop d (right_of c r) ≡ β → All P β → (i : ℕ) → d ≤ i → i < length_of c r → P (symbol_at c r i)
    all_list d e none i l k = absurd (omega (arith, dot_end d e))
    all_list d e (more p ps) i l k = go (ℕ_discrete i d) (λ m. all_list (suc d) (drop_next d (right_of c r) e) ps i m k)
      where
        go : Dec (i ≡ d) → (suc d ≤ i → P (symbol_at c r i)) → P (symbol_at c r i)
        go (yes o) f = rw (o, dot_symbol d e) p
        go (no o) f = f (omega arith)
