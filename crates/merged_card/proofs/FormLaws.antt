-- Two cards past 4 to 9 with the same number of terminals: no refusal of the form but 5 applies to the merged card.
use mathlib.Core.Path.{◌≡◌, ◌∙◌}
use mathlib.Core.Bool.{true, false}
use mathlib.Core.List.{List}
use mathlib.Core.Logic.{⊎_elim}
use Prim.Native.Nat.{ℕ, ◌+◌, ◌<◌, ◌≤◌}
use native.Mathlib.Omega.{arith}
use lib.ListN.{length, get_or}
use borrow.Author.Tests.{lt-ltb, le-ltb, le-leb, eq-eqb}
use Rattle.sets.proofs.HasLaws.{lt_or_ge}
use Rattle.sets.proofs.TestLaws.{and_true, all_true}
use Rattle.grammar.specs.Card.{terminals, nonterminals, productions, symbols, left_of, symbols_at, symbol_of, start_of, sizes_ok, is_nonterminal, is_symbol, lefts_ok, rights_ok, form_fault}
use Rattle.grammar.proofs.CardLaws.{WellFormed}
use Rattle.merged_card.specs.Merged.{moved, of_first, of_second, merged_lefts, merged_symbols, merged_card}
use Rattle.merged_card.proofs.ArrayLaws.{array_all}
use Rattle.merged_card.proofs.MergedLaws.{merged_terminals, merged_nonterminals, merged_productions, merged_symbols_is, merged_length, left_at, symbol_at, start_second}

-- ---- a symbol that has moved

pub moved_terminal : (t k x : ℕ) → x < t → moved t k x ≡ x
unfolding moved
moved_terminal t k x h = rw (lt-ltb x t h)

pub moved_nonterminal : (t k x : ℕ) → t ≤ x → moved t k x ≡ x + k
unfolding moved
moved_nonterminal t k x h = rw (le-ltb x t h)

-- it is no less than it was, and moves by k at most
pub moved_bounds : (t k x : ℕ) → (x ≤ moved t k x) × (moved t k x ≤ x + k)
moved_bounds t k x =
    ⊎_elim
    (λ (h : x < t). rw (moved_terminal t k x h) (omega arith, omega arith))
    (λ (h : t ≤ x). rw (moved_nonterminal t k x h) (omega arith, omega arith))
    (lt_or_ge x t)

module _ (a b : List ℕ) (v : WellFormed a) (w : WellFormed b) (same : terminals a ≡ terminals b) where
  -- a symbol of either card, from n on, is one of the merged card
  first_from : (n x : ℕ) → n ≤ x → x < terminals a + nonterminals a → (n ≤ of_first a b x) × (of_first a b x < terminals a + (1 + nonterminals a + nonterminals b))
  first_from n x h k = let m = moved_bounds (terminals a) 1 x in (omega (arith, m.0), omega (arith, m.1))

  second_from : (n x : ℕ) → n ≤ x → x < terminals b + nonterminals b → (n ≤ of_second a b x) × (of_second a b x < terminals a + (1 + nonterminals a + nonterminals b))
  second_from n x h k = let m = moved_bounds (terminals b) (1 + nonterminals a) x in (omega (arith, m.0), omega (arith, m.1, same))

  left_from : (r : ℕ) → r < 2 + (productions a + productions b) → (terminals a ≤ get_or (merged_lefts a b) r 0) × (get_or (merged_lefts a b) r 0 < terminals a + (1 + nonterminals a + nonterminals b))
  left_from =
      array_all _ _ (productions a) _ (productions b) _ (λ (x : ℕ). (terminals a ≤ x) × (x < terminals a + (1 + nonterminals a + nonterminals b)))
      (omega arith, omega arith)
      (omega arith, omega arith)
      (λ r h. first_from (terminals a) (left_of a r) (v.lefts r h).0 (v.lefts r h).1)
      (λ r h. second_from (terminals a) (left_of b r) (omega (arith, (w.lefts r h).0, same)) (w.lefts r h).1)

  symbol_from : (k : ℕ) → k < 2 + (symbols a + symbols b) → (1 ≤ get_or (merged_symbols a b) k 0) × (get_or (merged_symbols a b) k 0 < terminals a + (1 + nonterminals a + nonterminals b))
  symbol_from =
      array_all _ _ (symbols a) _ (symbols b) _ (λ (x : ℕ). (1 ≤ x) × (x < terminals a + (1 + nonterminals a + nonterminals b)))
      (first_from 1 (terminals a) v.limits.terminals_from (omega (arith, v.limits.nonterminals_from)))
      (second_from 1 (terminals b) w.limits.terminals_from (omega (arith, w.limits.nonterminals_from)))
      (λ k h. first_from 1 (symbol_of a k) (v.rights k h).0 (v.rights k h).1)
      (λ k h. second_from 1 (symbol_of b k) (w.rights k h).0 (w.rights k h).1)

  lefts_passed : lefts_ok (merged_card a b) ≡ true
  unfolding lefts_ok is_nonterminal
  lefts_passed =
      all_true (λ r. is_nonterminal (merged_card a b) (left_of (merged_card a b) r)) (productions (merged_card a b)) (λ r h. (
      let k : r < 2 + (productions a + productions b) = omega (arith, merged_productions a b) in
      let f = left_from r k in
      rw (left_at a b r (omega arith), merged_terminals a b, merged_nonterminals a b) (and_true (le-leb _ _ f.0) (lt-ltb _ _ f.1))))

  rights_passed : rights_ok (merged_card a b) ≡ true
  unfolding rights_ok is_symbol
  rights_passed =
      all_true (λ k. is_symbol (merged_card a b) (symbol_of (merged_card a b) k)) (symbols (merged_card a b)) (λ k h. (
      let i : k < 2 + (symbols a + symbols b) = omega (arith, merged_symbols_is a b) in
      let f = symbol_from k i in
      rw (symbol_at a b k, merged_terminals a b, merged_nonterminals a b) (and_true (lt-ltb _ _ f.0) (lt-ltb _ _ f.1))))

  sum_ok : start_of (merged_card a b) (productions (merged_card a b)) ≡ symbols (merged_card a b)
  sum_ok =
      let e : productions (merged_card a b) ≡ 2 + (productions a + productions b) = merged_productions a b ∙ omega arith in
      rw e (start_second a b (productions b) (omega arith) ∙ omega (arith, v.sum, w.sum, merged_symbols_is a b))

  long : length (merged_card a b) ≡ symbols_at (merged_card a b) + symbols (merged_card a b)
  long = merged_length a b ∙ omega (arith, merged_productions a b, merged_symbols_is a b)

  -- the merged card is two numbers longer than both
  pub merged_longer : length (merged_card a b) ≡ length a + length b + 2
  merged_longer = merged_length a b ∙ omega (arith, v.long, w.long)

  four : 4 ≤ length (merged_card a b)
  four = omega (arith, merged_length a b)

  -- "Sizes over the limits are 5"
  pub merged_oversized : sizes_ok (merged_card a b) ≡ false → form_fault (merged_card a b) ≡ 5
  unfolding form_fault
  merged_oversized s = rw (le-leb 4 (length (merged_card a b)) four, s)

  -- and nothing else of 4 to 9 applies
  pub merged_formed : sizes_ok (merged_card a b) ≡ true → form_fault (merged_card a b) ≡ 0
  unfolding form_fault
  merged_formed s =
      rw (le-leb 4 (length (merged_card a b)) four, s, eq-eqb (length (merged_card a b)) (symbols_at (merged_card a b) + symbols (merged_card a b)) long, lefts_passed, eq-eqb (start_of (merged_card a b) (productions (merged_card a b))) (symbols (merged_card a b)) sum_ok, rights_passed)
