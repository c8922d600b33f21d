-- Symbols and strings as sets.
use mathlib.Core.Path.{◌≡◌, refl, sym, ◌∙◌}
use mathlib.Core.Bool.{Bool, true, false, ◌||◌}
use mathlib.Core.List.{List, [], ◌∷◌, ◌++◌}
use mathlib.Core.Logic.{⊎_elim}
use Prim.Native.Nat.{ℕ, ◌+◌, ◌-◌, ◌^◌, ◌≤◌, ◌<◌}
use lib.Bits.{bit_or, or_add_and, and_le_r}
use native.Mathlib.Omega.{arith}
use lib.ListN.{length, set, length-set}
use lib.Seq.{get_or-set_same, get_or-set_other}
use borrow.Author.Tests.{lt-ltb, le-ltb}
use Rattle.sets.specs.Bit.{bit, Within}
use Rattle.sets.proofs.BitLaws.{bit_of_or, bit_zero, bits_eq}
use Rattle.sets.proofs.HasLaws.{eq_or, has_none, has_or, or_has_l, or_has_r, or_assoc, or_false}
use Rattle.grammar.specs.Card.{terminals, nonterminals, productions, length_of, symbol_of, start_of, form_fault}
use Rattle.grammar.proofs.CardLaws.{well_formed, start_mono, right_at}
use Rattle.grammar.proofs.Closed.{All, none, more}
use Rattle.nonterminals.specs.Gathering.{word_of, join_of, Words}

or_within : (p q : Bool) → (p ≡ true → q ≡ true) → (p || q) ≡ q
or_within true q e = sym (e refl)
or_within false q e = refl

-- a set within another is no larger a number
pub within_le : (a b : ℕ) → Within a b → a ≤ b
within_le a b h = omega (arith, or_add_and a b, and_le_r a b, bits_eq (bit_or a b) b (λ m. bit_of_or a b m ∙ or_within (bit a m) (bit b m) (h m)))

or_join : (a b d : ℕ) → bit_or a (bit_or b d) ≡ bit_or (bit_or a b) d
or_join a b d = bits_eq _ _ (λ m. sym (simp (bit_of_or, or_assoc)))

module _ (c : List ℕ) where
  pub word_terminal : (x : ℕ) → x < terminals c → word_of c x ≡ 0
  unfolding word_of
  word_terminal x h = rw (lt-ltb x (terminals c) h)

  pub word_nonterminal : (x : ℕ) → terminals c ≤ x → word_of c x ≡ 2 ^ (x - terminals c)
  unfolding word_of
  word_nonterminal x h = rw (le-ltb x (terminals c) h)

  pub join_last : (l : List ℕ) (x : ℕ) → join_of c (l ++ x ∷ []) ≡ bit_or (join_of c l) (word_of c x)
  unfolding join_of
  join_last [] x = bits_eq _ _ (λ m. simp (bit_of_or, bit_zero, or_false))
  join_last (y ∷ l) x = rw (join_last l x) (or_join (word_of c y) (join_of c l) (word_of c x))

  module _ (w : ℕ) where
    pub join_all : (l : List ℕ) → Within (join_of c l) w → All (λ x. Within (word_of c x) w) l
    unfolding join_of
    join_all [] h = none
    join_all (x ∷ l) h = more (λ m e. h m (or_has_l (word_of c x) (join_of c l) m e)) (join_all l (λ m e. h m (or_has_r (word_of c x) (join_of c l) m e)))

    pub all_join : {l : List ℕ} → All (λ x. Within (word_of c x) w) l → Within (join_of c l) w
    unfolding join_of
    all_join none m e = absurd (has_none m e)
    all_join (more {a = x} {w = l} h a) m e = ⊎_elim (λ i. h m i) (λ i. all_join a m i) (has_or (word_of c x) (join_of c l) m e)

-- the symbols of a right side stand in the card
module _ (c : List ℕ) (h : form_fault c ≡ 0) (r d : ℕ) (k : r < productions c) (l : d < length_of c r) where
  pub right_place : start_of c r + d < 512
  right_place = let w = well_formed c h in omega (arith, right_at c w r d k l, w.limits.symbols_to_is)

  pub right_symbol : symbol_of c (start_of c r + d) < terminals c + nonterminals c
  right_symbol = let w = well_formed c h in (w.rights (start_of c r + d) (right_at c w r d k l)).1

pub ends_below : (c : List ℕ) → form_fault c ≡ 0 → (r : ℕ) → r < productions c → start_of c r + length_of c r ≤ 512
ends_below c h r k = let w = well_formed c h in omega (arith, start_mono c (productions c) r k, w.sum, w.limits.symbols_to_is)

-- ---- the words of the productions

pub words_start : (f : ℕ → ℕ) (v : List ℕ) → length v ≡ 128 → Words f 0 v
words_start f v l = record { long = l; words = λ r h. absurd (omega arith) }

pub words_more : (f : ℕ → ℕ) (v : List ℕ) (n : ℕ) → Words f n v → n < 128 → (i x : ℕ) → i ≡ n → x ≡ f n → Words f (n + 1) (set v i x)
words_more f v n R h i x ei ex =
    rw ei
    (record {
      long = length-set v n x ∙ R.long;
      words = λ r k.
          ⊎_elim
          (λ (e : r ≡ n). rw e (get_or-set_same v n x 0 (omega (arith, R.long)) ∙ ex))
          (λ (e : r ≡ n → ⊥). get_or-set_other v n r x 0 e ∙ R.words r (omega arith))
          (eq_or r n);
    })
