-- What stands in the area after a store.
use mathlib.Core.Path.{◌≡◌, refl, sym, ap, ap₂, ◌∙◌}
use mathlib.Core.List.{List}
use mathlib.Core.Bool.{Bool, false, ◌&&◌, ◌||◌}
use mathlib.Core.Logic.{⊎_elim}
use Prim.Native.Nat.{ℕ, ◌+◌, ◌*◌, ◌/◌, ◌%◌, ◌^◌, ◌≤◌, ◌<◌}
use native.Mathlib.Omega.{arith}
use lib.Dec.{eqb}
use lib.ListN.{length, get_or, set, length-set}
use lib.Seq.{get_or-set_same, get_or-set_other}
use lib.Bits.{bit_or}
use borrow.Author.Tests.{eq-eqb, ne_eqb}
use Rattle.sets.specs.Bit.{bit}
use Rattle.sets.proofs.BitLaws.{bit_zero, bit_of_or, bit_pow}
use Rattle.sets.proofs.HasLaws.{eq_or, or_false}
use Rattle.transitions.specs.Places.{predecessors_at, starts_at, lengths_at}
use Rattle.transitions.specs.Area.{precedes, Paired, shortest_of}
use Rattle.transitions.specs.Writes.{Stored, Preceded}

pub stored : (w : List ℕ) (i v : ℕ) → i < length w → Stored w i v (set w i v)
stored w i v h = record { long = length-set w i v; here = get_or-set_same w i v 0 h; other = λ u n. get_or-set_other w i u v 0 n }

-- ---- the states before a state

-- where the bit of a transition from p to q stands
abbrev place : ℕ → ℕ → ℕ
place q p = predecessors_at + 8 * q + p / 32

module _ (w : List ℕ) (q p : ℕ) (hq : q < 256) (hp : p < 256) (w' : List ℕ) (S : Stored w (place q p) (bit_or (get_or w (place q p) 0) (2 ^ (p % 32))) w') where
  digits : (u s : ℕ) → u ≡ q → s / 32 ≡ p / 32 → eqb (p % 32) (s % 32) ≡ (eqb q u && eqb p s)
  digits u s eu es =
      ⊎_elim
      (λ (e : p ≡ s). rw (eu, e) (eq-eqb (s % 32) (s % 32) refl ∙ sym (ap₂ ◌&&◌ (eq-eqb q q refl) (eq-eqb s s refl))))
      (λ (n : p ≡ s → ⊥). rw eu (ne_eqb (p % 32) (s % 32) (λ z. n (omega arith)) ∙ sym (ap₂ ◌&&◌ (eq-eqb q q refl) (ne_eqb p s n))))
      (eq_or p s)

  apart : (u s : ℕ) → (place u s ≡ place q p → ⊥) → (eqb q u && eqb p s) ≡ false
  apart u s n =
      ⊎_elim
      (λ (e : q ≡ u). ap₂ ◌&&◌ (eq-eqb q u e) (ne_eqb p s (λ z. n (ap₂ place (sym e) (sym z)))))
      (λ (e : q ≡ u → ⊥). ap (λ (z : Bool). z && eqb p s) (ne_eqb q u e))
      (eq_or q u)

  bit_of : (u s : ℕ) → u < 256 → s < 256 → precedes w' u s ≡ (precedes w u s || (eqb q u && eqb p s))
  unfolding precedes
  bit_of u s hu hs =
      ⊎_elim
      (λ (e : place u s ≡ place q p).
      let eu : u ≡ q = omega arith in
      let es : s / 32 ≡ p / 32 = omega arith in
      ap (λ (z : ℕ). bit (get_or w' z 0) (s % 32)) e ∙ ap (λ (z : ℕ). bit z (s % 32)) S.here
      ∙ bit_of_or (get_or w (place q p) 0) (2 ^ (p % 32)) (s % 32)
      ∙ ap₂ (λ (a : ℕ) (y : Bool). bit (get_or w a 0) (s % 32) || y) (sym e) (bit_pow (p % 32) (s % 32) ∙ digits u s eu es))
      (λ (n : place u s ≡ place q p → ⊥).
      ap (λ (z : ℕ). bit z (s % 32)) (S.other (place u s) n)
      ∙ sym (ap (λ (z : Bool). bit (get_or w (place u s) 0) (s % 32) || z) (apart u s n) ∙ or_false _))
      (eq_or (place u s) (place q p))

  pub preceded : Preceded w q p w'
  preceded = record {
    long = S.long;
    before = bit_of;
    low = λ i h. S.other i (λ z. omega arith);
    high = λ i h. S.other i (λ z. omega arith);
  }

-- by the shift that the code computes
pub preceded_of : (w : List ℕ) (q p g : ℕ) → q < 256 → p < 256 → starts_at ≤ length w → g ≡ 2 ^ (p % 32)
    → Preceded w q p (set w (predecessors_at + 8 * q + p / 32) (bit_or (get_or w (predecessors_at + 8 * q + p / 32) 0) g))
preceded_of w q p g hq hp l eg = rw eg (preceded w q p hq hp _ (stored w (place q p) _ (omega arith)))

-- where the places of the states before states are the same, or 0
module _ (w' : List ℕ) (q p : ℕ) (hq : q < 256) (hp : p < 256) where
  pub precedes_same : (w : List ℕ) → ((i : ℕ) → predecessors_at ≤ i → i < starts_at → get_or w' i 0 ≡ get_or w i 0) → precedes w' q p ≡ precedes w q p
  unfolding precedes
  precedes_same w same = ap (λ (z : ℕ). bit z (p % 32)) (same (place q p) (omega arith) (omega arith))

  pub precedes_none : ((i : ℕ) → predecessors_at ≤ i → i < starts_at → get_or w' i 0 ≡ 0) → precedes w' q p ≡ false
  unfolding precedes
  precedes_none zero = ap (λ (z : ℕ). bit z (p % 32)) (zero (place q p) (omega arith) (omega arith)) ∙ bit_zero (p % 32)

-- the bits of a word of them
pub word_of : (w : List ℕ) (q j r : ℕ) → Paired w (predecessors_at + 8 * q + 2 * j) r → (m : ℕ) → m < 64 → bit r m ≡ precedes w q (64 * j + m)
unfolding precedes
word_of w q j r P m h =
    let e : predecessors_at + 8 * q + 2 * j + m / 32 ≡ place q (64 * j + m) = omega arith in
    let d : m % 32 ≡ (64 * j + m) % 32 = omega arith in
    P.bits m h ∙ ap₂ (λ (x y : ℕ). bit (get_or w x 0) y) e d

-- ---- the shortest lengths

pub shortest_same : (w w' : List ℕ) → ((i : ℕ) → lengths_at ≤ i → get_or w' i 0 ≡ get_or w i 0) → shortest_of w' ≡ shortest_of w
shortest_same w w' same = λ i j. same (lengths_at + j) (omega arith) i
