-- Two numbers as one: the digits of a + b * 2 ^ k, at any width.
use mathlib.Core.Path.{◌≡◌, sym, ap, ◌∙◌}
use mathlib.Core.List.{List}
use mathlib.Core.Logic.{⊎_elim}
use Prim.Native.Nat.{ℕ, zero, suc, ◌+◌, ◌-◌, ◌*◌, ◌/◌, ◌%◌, ◌^◌, ◌<◌, ◌≤◌}
use native.Mathlib.Omega.{arith}
use native.Mathlib.Nat.{not-suc-le-zero, le_of_suc-le-suc, pow-suc, mul_assoc, add-mul-div_right, div-eq_of_lt, zero-add}
use lib.Dec.{eqb}
use lib.ListN.{get_or}
use lib.Pow.{pow_pos}
use Rattle.sets.specs.Bit.{bit}
use Rattle.sets.proofs.BitLaws.{bit_low, bit_suc, bit_shr}
use Rattle.sets.proofs.HasLaws.{lt_or_ge}
use Rattle.transitions.specs.Area.{Paired}

pub bit_front : (k a b m : ℕ) → m < k → bit (a + b * 2 ^ k) m ≡ bit a m
bit_front zero a b m h = absurd (not-suc-le-zero h)
bit_front (suc k) a b zero h =
    let e : b * 2 ^ suc k ≡ b * 2 ^ k * 2 = ap (λ (x : ℕ). b * x) (pow-suc 2 k) ∙ sym (mul_assoc b (2 ^ k) 2) in
    let r : (a + b * 2 ^ suc k) % 2 ≡ a % 2 = omega arith in
    bit_low (a + b * 2 ^ suc k) ∙ ap (λ (x : ℕ). eqb x 1) r ∙ sym (bit_low a)
bit_front (suc k) a b (suc m) h =
    let e : b * 2 ^ suc k ≡ b * 2 ^ k * 2 = ap (λ (x : ℕ). b * x) (pow-suc 2 k) ∙ sym (mul_assoc b (2 ^ k) 2) in
    let r : (a + b * 2 ^ suc k) / 2 ≡ a / 2 + b * 2 ^ k = omega arith in
    bit_suc (a + b * 2 ^ suc k) m ∙ ap (λ (x : ℕ). bit x m) r ∙ bit_front k (a / 2) b m (le_of_suc-le-suc h) ∙ sym (bit_suc a m)

pub bit_behind : (k a b m : ℕ) → a < 2 ^ k → bit (a + b * 2 ^ k) (k + m) ≡ bit b m
bit_behind k a b m h =
    let e : (a + b * 2 ^ k) / 2 ^ k ≡ b = add-mul-div_right a b (pow_pos k) ∙ ap (λ (x : ℕ). x + b) (div-eq_of_lt h) ∙ zero-add b in
    sym (bit_shr (a + b * 2 ^ k) k m) ∙ ap (λ (x : ℕ). bit x m) e

pub paired : (w : List ℕ) (i : ℕ) → get_or w i 0 < 2 ^ 32 → Paired w i (get_or w i 0 + get_or w (i + 1) 0 * 2 ^ 32)
paired w i h = record {
  bits = λ m l.
      ⊎_elim
      (λ (s : m < 32).
      let d : i + m / 32 ≡ i = omega arith in
      let r : m % 32 ≡ m = omega arith in
      bit_front 32 (get_or w i 0) (get_or w (i + 1) 0) m s ∙ sym (ap (λ (x : ℕ). bit (get_or w x 0) (m % 32)) d ∙ ap (bit (get_or w i 0)) r))
      (λ (s : 32 ≤ m).
      let d : i + m / 32 ≡ i + 1 = omega arith in
      let r : m % 32 ≡ m - 32 = omega arith in
      let f : m ≡ 32 + (m - 32) = omega arith in
      ap (bit (get_or w i 0 + get_or w (i + 1) 0 * 2 ^ 32)) f ∙ bit_behind 32 (get_or w i 0) (get_or w (i + 1) 0) (m - 32) h
      ∙ sym (ap (λ (x : ℕ). bit (get_or w x 0) (m % 32)) d ∙ ap (bit (get_or w (i + 1) 0)) r))
      (lt_or_ge m 32);
}

pub paired_of : (w : List ℕ) (i a b : ℕ) → a ≡ get_or w i 0 → b ≡ get_or w (i + 1) 0 → a < 2 ^ 32 → Paired w i (a + b * 2 ^ 32)
paired_of w i a b ea eb h = rw (ea, eb) (paired w i (rw ea at h))
