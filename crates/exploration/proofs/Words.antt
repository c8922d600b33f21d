-- Laws of words as sets of terminals.
use Prim.Native.Nat.{ℕ, ◌+◌, ◌-◌, ◌/◌, ◌^◌, ◌<◌, ◌≤◌}
use mathlib.Core.Path.{◌≡◌, sym, ap, ◌∙◌}
use mathlib.Core.Bool.{true, not, ◌&&◌, false≢true}
use mathlib.Core.Logic.{◌↔◌, ⊎_elim}
use native.Mathlib.Omega.{arith}
use lib.Dec.{lit<, eqb}
use lib.Pow.{pow_pos}
use lib.Count.{count_trailing_zeros}
use borrow.Author.Tests.{eq-eqb, ne_eqb}
use Rattle.sets.specs.Bit.{bit, count, Has, Within, Lowest, Rest}
use Rattle.sets.proofs.BitLaws.{bit_not, bit_zero, bit_above, bit_shr, lowest_in, lowest_below, clear_lowest}
use Rattle.sets.proofs.CountLaws.{count_same}
use Rattle.sets.proofs.HasLaws.{lt_or_ge, eq_or, no_bit}
use Rattle.sets.proofs.TestLaws.{and_true, and_left, and_right}
use Rattle.machine.specs.Restricted.{Open}

-- a word of w bits, all of them 1
ones_has : (w m : ℕ) → m < w → bit ((2 ^ w - 1) - 0) m ≡ true
ones_has w m h = bit_not w 0 m (pow_pos w) h ∙ ap not (bit_zero m)

-- its highest n
pub all_has : (n m : ℕ) → n ≤ 64 → Has (18446744073709551615 / 2 ^ (64 - n)) m ↔ (m < n)
all_has n m h = (
  λ b.
      ⊎_elim (λ (l : m < n). l)
      (λ (l : n ≤ m).
      absurd (false≢true (sym (bit_shr 18446744073709551615 (64 - n) m ∙ bit_above 64 18446744073709551615 (64 - n + m) (lit< tt) (omega arith)) ∙ b)))
      (lt_or_ge m n),
  λ l. bit_shr 18446744073709551615 (64 - n) m ∙ ones_has 64 (64 - n + m) (omega arith),
)

-- all but the closed ones
pub open_has : (every closed s : ℕ) {n : ℕ} → ((m : ℕ) → Has every m ↔ (m < n)) → ((m : ℕ) → bit s m ≡ (bit every m && not (bit closed m))) → (m : ℕ) → Has s m ↔ ((m < n) × Open closed m)
open_has every closed s a e m = (
  λ h.
      let b = sym (e m) ∙ h in
      ((a m).0 (and_left (bit every m) (not (bit closed m)) b), λ k. false≢true (sym (ap not k) ∙ and_right (bit every m) (not (bit closed m)) b)),
  λ o. e m ∙ and_true ((a m).1 o.0) (ap not (no_bit (bit closed m) o.1)),
)

-- a walk from the lowest
module _ {s : ℕ} (some : 0 < s) (fits : s < 2 ^ 64) where
  pub lowest_member : Has s (count_trailing_zeros 64 s)
  lowest_member = lowest_in 64 s some fits

  pub rest_less : {r : ℕ} → Rest 64 s r → r < s
  rest_less t = omega (arith, t.value, clear_lowest 64 s some fits, pow_pos (count_trailing_zeros 64 s))

  pub not_below : (m : ℕ) → Has s m → m < count_trailing_zeros 64 s → ⊥
  not_below m h b = false≢true (sym (lowest_below 64 s m b) ∙ h)

module _ {s m r : ℕ} (l : Lowest 64 s m) (t : Rest 64 s r) where
  pub rest_has : (k : ℕ) → Has r k → Has s k
  rest_has k h = and_left (bit s k) (not (eqb (count_trailing_zeros 64 s) k)) (sym (t.items k) ∙ h)

  -- what is left lies above
  pub rest_above : (k : ℕ) → Has r k → m < k
  rest_above k h =
      ⊎_elim (λ (b : m < k). b)
      (λ (b : k ≤ m).
      ⊎_elim
      (λ (g : k < m). absurd (false≢true (sym (l.least k g) ∙ rest_has k h)))
      (λ (g : m ≤ k).
      let e : count_trailing_zeros 64 s ≡ k = sym l.value ∙ (let e : m ≡ k = omega arith in e) in
      absurd (false≢true (sym (ap not (eq-eqb (count_trailing_zeros 64 s) k e)) ∙ and_right (bit s k) (not (eqb (count_trailing_zeros 64 s) k)) (sym (t.items k) ∙ h))))
      (lt_or_ge k m))
      (lt_or_ge m k)

  -- and all but the lowest is left
  pub rest_or : (k : ℕ) → Has s k → (Has r k → ⊥) → m ≡ k
  rest_or k h n =
      ⊎_elim (λ e. e)
      (λ ne. absurd (n (t.items k ∙ and_true h (ap not (ne_eqb (count_trailing_zeros 64 s) k (λ e. ne (l.value ∙ e)))))))
      (eq_or m k)

-- a set that lacks one of another and has nothing else is smaller
pub count_less : (a b n k : ℕ) → Within a b → k < n → Has b k → (Has a k → ⊥) → count (bit a) n < count (bit b) n
count_less a b n k w h i o =
    ⊎_elim (λ (l : count (bit a) n < count (bit b) n). l)
    (λ (l : count (bit b) n ≤ count (bit a) n). absurd (o (count_same (bit a) (bit b) w n l k h ∙ i)))
    (lt_or_ge (count (bit a) n) (count (bit b) n))
