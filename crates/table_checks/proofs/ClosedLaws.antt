-- Words without bits from a place on.
use Prim.Native.Nat.{ℕ, ◌+◌, ◌-◌, ◌/◌, ◌^◌, ◌<◌, ◌≤◌}
use mathlib.Core.Path.{◌≡◌, refl, sym, ap, ◌∙◌}
use mathlib.Core.Bool.{true, false}
use mathlib.Core.Logic.{⊎_elim}
use mathlib.Core.List.{List}
use native.Mathlib.Omega.{arith}
use lib.Dec.{ltb, eqb}
use borrow.Author.Tests.{lt-ltb, le-ltb, eq-eqb, ne_eqb}
use Rattle.sets.specs.Bit.{bit}
use Rattle.sets.proofs.HasLaws.{lt_or_ge}
use Rattle.sets.proofs.BitLaws.{bit_zero, bit_above, bits_eq, bit_shr, bit_bound}
use Rattle.tables.specs.Layout.{terminals}
use Rattle.machine.specs.Checks.{closed_ok}

-- none is left behind n places
none_left : (n s : ℕ) → s < 2 ^ n → s / 2 ^ n ≡ 0
none_left n s h = bits_eq (s / 2 ^ n) 0 (λ m. bit_shr s n m ∙ bit_above n s (n + m) h (omega arith) ∙ sym (bit_zero m))

none_above : (n s : ℕ) → s / 2 ^ n ≡ 0 → s < 2 ^ n
none_above n s e =
    bit_bound n s
    (λ m h. let i : n + (m - n) ≡ m = omega arith in ap (bit s) (sym i) ∙ sym (bit_shr s n (m - n)) ∙ ap (λ (x : ℕ). bit x (m - n)) e ∙ bit_zero (m - n))

shifted_out : (n s : ℕ) → eqb (s / 2 ^ n) 0 ≡ ltb s (2 ^ n)
shifted_out n s =
    ⊎_elim
    (λ (h : s < 2 ^ n). eq-eqb (s / 2 ^ n) 0 (none_left n s h) ∙ sym (lt-ltb s (2 ^ n) h))
    (λ (h : 2 ^ n ≤ s). ne_eqb (s / 2 ^ n) 0 (λ e. let k = none_above n s e in omega arith) ∙ sym (le-ltb s (2 ^ n) h))
    (lt_or_ge s (2 ^ n))

module _ (closed n : ℕ) (t : List ℕ) (e : terminals t ≡ n) where
  pub zero_closed : bit closed 0 ≡ true → false ≡ closed_ok t closed
  unfolding closed_ok
  zero_closed h = rw h refl

  pub within_word : bit closed 0 ≡ false → eqb (closed / 2 ^ n) 0 ≡ closed_ok t closed
  unfolding closed_ok
  within_word h = rw (h, e) (shifted_out n closed)

  -- a word of w bits has none from n on where n is at least w
  pub whole_word : (w : ℕ) → bit closed 0 ≡ false → closed < 2 ^ w → w ≤ n → true ≡ closed_ok t closed
  unfolding closed_ok
  whole_word w h f k = rw (h, e, lt-ltb closed (2 ^ n) (bit_bound n closed (λ m i. bit_above w closed m f (omega arith)))) refl
