-- The pieces of the three arrays are those of the merged card, lie in their cards, and have 16 bits when they have moved.
use mathlib.Core.Path.{◌≡◌, refl}
use mathlib.Core.List.{List}
use Prim.Native.Nat.{ℕ, ◌+◌, ◌<◌, ◌≤◌}
use native.Mathlib.Omega.{arith}
use lib.ListN.{get_or}
use Rattle.merged_card.proofs.ArrayLaws.{same_ones}
use Rattle.grammar.specs.Card.{terminals, nonterminals, productions, left_of, length_of, symbol_of, form_fault}
use Rattle.grammar.proofs.CardLaws.{Limits, WellFormed, well_formed, start_mono}
use Rattle.merged_card.specs.Merged.{moved, merged_lefts, merged_lengths, merged_symbols}
use Rattle.merged_card.proofs.FormLaws.{moved_nonterminal, moved_bounds}
use Rattle.merged_card.specs.Writing.{left_part, length_part, symbol_part, Narrow, Gives, Alike}
use Rattle.merged_card.specs.declared.Part.{Part}
use Rattle.merged_card.specs.declared.Pieces.{Pieces}

-- by 0 nothing moves
unmoved : (t x : ℕ) → moved t 0 x ≡ x
unmoved t x = let m = moved_bounds t 0 x in omega (arith, m.0, m.1)

module _ (c : List ℕ) (w : WellFormed c) where
  narrow_lefts : (k : ℕ) → k ≤ 61 → Narrow c (left_part c k)
  unfolding left_of
  narrow_lefts k h r i = let l : left_of c r < terminals c + nonterminals c = (w.lefts r i).1 in omega (arith, l, w.limits.terminals_to, w.limits.nonterminals_to)

  narrow_lengths : Narrow c (length_part c)
  unfolding length_of
  narrow_lengths r i = omega (arith, start_mono c (productions c) r i, w.sum, w.limits.symbols_to_is)

  narrow_symbols : (k : ℕ) → k ≤ 61 → Narrow c (symbol_part c k)
  unfolding symbol_of
  narrow_symbols k h j i = let l : symbol_of c j < terminals c + nonterminals c = (w.rights j i).1 in omega (arith, l, w.limits.terminals_to, w.limits.nonterminals_to)

-- the pieces of an array by their values
abbrev pieces_of : ℕ → ℕ → Part → Part → Pieces
pieces_of x y p q = record { x = x; y = y; first = p; second = q }

-- a card past 4 to 9 has 60 nonterminals at most
pub nonterminals_to_60 : (c : List ℕ) → form_fault c ≡ 0 → nonterminals c ≤ 60
nonterminals_to_60 c e = (well_formed c e).limits.nonterminals_to

module _ (a b : List ℕ) (j : Alike a b) where
  v : WellFormed a
  v = well_formed a j.first

  w : WellFormed b
  w = well_formed b j.second

  pub first_limits : Limits a
  first_limits = v.limits

  pub second_limits : Limits b
  second_limits = w.limits

  module _ {t k : ℕ} {p q : Part} (et : t ≡ terminals a) (ek : k ≡ 1 + nonterminals a) where
    pub lefts_given : p ≡ left_part a 1 → q ≡ left_part b k → Gives a b (pieces_of t t p q) (merged_lefts a b)
    unfolding left_of
    lefts_given ep eq =
        rw (ep, eq, et, ek)
        (record {
          inside = record { first = omega (arith, v.long); second = omega (arith, w.long); first_narrow = narrow_lefts a v 1 (omega arith); second_narrow = narrow_lefts b w (1 + nonterminals a) (omega (arith, first_limits.nonterminals_to)) };
          numbers = rw j.terminals_same refl;
        })

    pub symbols_given : p ≡ symbol_part a 1 → q ≡ symbol_part b k → Gives a b (pieces_of (t + 1) (t + k) p q) (merged_symbols a b)
    unfolding symbol_of
    symbols_given ep eq =
        rw (ep, eq, et, ek)
        (record {
          inside = record { first = omega (arith, v.long); second = omega (arith, w.long); first_narrow = narrow_symbols a v 1 (omega arith); second_narrow = narrow_symbols b w (1 + nonterminals a) (omega (arith, first_limits.nonterminals_to)) };
          numbers = rw (moved_nonterminal (terminals a) 1 (terminals a) (omega arith), moved_nonterminal (terminals b) (1 + nonterminals a) (terminals b) (omega arith), j.terminals_same) refl;
        })

  pub lengths_given : {p q : Part} → p ≡ length_part a → q ≡ length_part b → Gives a b (pieces_of 1 1 p q) (merged_lengths a b)
  unfolding length_of
  lengths_given ep eq =
      rw (ep, eq)
      (record {
        inside = record { first = omega (arith, v.long); second = omega (arith, w.long); first_narrow = narrow_lengths a v; second_narrow = narrow_lengths b w };
        numbers =
            rw (
              same_ones (productions a) (λ r. moved (terminals a) 0 (get_or a (4 + productions a + r) 0)) (λ r. get_or a (4 + productions a + r) 0) (λ r h. unmoved (terminals a) _),
              same_ones (productions b) (λ r. moved (terminals a) 0 (get_or b (4 + productions b + r) 0)) (λ r. get_or b (4 + productions b + r) 0) (λ r h. unmoved (terminals a) _),
            ) refl;
      })
