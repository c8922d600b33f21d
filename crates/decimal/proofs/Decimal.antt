-- The decimal digits of a number: the usual recursion, their value, and no zero in front.
use mathlib.Core.Path.{◌≡◌, refl, sym, ap, ◌∙◌}
use mathlib.Core.List.{List, [], ◌∷◌, ◌++◌}
use Prim.Native.Nat.{ℕ, zero, suc, ◌+◌, ◌*◌, ◌/◌, ◌%◌, ◌^◌, ◌<◌, ◌≤◌}
use native.Mathlib.Nat.{div-add-mod', pow-suc}
use native.Mathlib.Omega.{arith}
use borrow.Author.Tests.{lt-ltb, le-ltb}
use lib.ListN.{length, get_or, length-append}
use Rattle.decimal.specs.Digits.{digits_by, decimal_of}
use Rattle.decimal.specs.Form.{Numeral, digit, longer}
use Rattle.decimal.proofs.Cases.{cases_lt}

one : (k n : ℕ) → n < 10 → digits_by k n ≡ (48 + n) ∷ []
unfolding digits_by
one zero n h = refl
one (suc k) n h = rw (lt-ltb n 10 h, digits_by) refl

more : (k n : ℕ) → 10 ≤ n → digits_by (suc k) n ≡ digits_by k (n / 10) ++ (48 + n % 10) ∷ []
unfolding digits_by
more k n h = rw (le-ltb n 10 h, digits_by) refl

-- the bound does not matter
same : (j k n : ℕ) → n ≤ j → n ≤ k → digits_by j n ≡ digits_by k n
same zero k n h i = one zero n (omega arith) ∙ sym (one k n (omega arith))
same (suc j) zero n h i = one (suc j) n (omega arith) ∙ sym (one zero n (omega arith))
same (suc j) (suc k) n h i =
    cases_lt n 10 (λ l. one (suc j) n l ∙ sym (one (suc k) n l))
    (λ l. more j n l ∙ ap (λ (ds : List ℕ). ds ++ (48 + n % 10) ∷ []) (same j k (n / 10) (omega arith) (omega arith)) ∙ sym (more k n l))

pub decimal_one : (n : ℕ) → n < 10 → decimal_of n ≡ (48 + n) ∷ []
unfolding decimal_of
decimal_one n h = one n n h

pub decimal_more : (n : ℕ) → 10 ≤ n → decimal_of n ≡ decimal_of (n / 10) ++ (48 + n % 10) ∷ []
unfolding decimal_of
decimal_more zero h = absurd (omega arith)
decimal_more (suc n) h =
    more n (suc n) h ∙ ap (λ (ds : List ℕ). ds ++ (48 + suc n % 10) ∷ []) (same n (suc n / 10) (suc n / 10) (omega arith) (omega arith))

module _ (P : ℕ → Type 0) (first : (n : ℕ) → n < 10 → P n) (then : (n : ℕ) → 10 ≤ n → P (n / 10) → P n) where
  within : (k n : ℕ) → n ≤ k → P n
  within zero n h = first n (omega arith)
  within (suc k) n h = cases_lt n 10 (first n) (λ l. then n l (within k (n / 10) (omega arith)))

  -- a fact of every number, by its digits
  pub decimal_ind : (n : ℕ) → P n
  decimal_ind n = within n n (omega arith)

-- their value is the number
pub decimal_numeral : (n : ℕ) → Numeral (decimal_of n) n
decimal_numeral = decimal_ind (λ n. Numeral (decimal_of n) n) (λ n h. rw (decimal_one n h) (digit h)) more_numeral
  where
    more_numeral : (n : ℕ) → 10 ≤ n → Numeral (decimal_of (n / 10)) (n / 10) → Numeral (decimal_of n) n
    more_numeral n h x =
        let m : n % 10 < 10 = omega arith in
        rw (decimal_more n h) (rw (div-add-mod' n 10) at (longer x m))

front_more : (xs ys : List ℕ) → 48 < get_or xs 0 0 → 48 < get_or (xs ++ ys) 0 0
front_more [] ys h = absurd (omega arith)
front_more (x ∷ xs) ys h = h

-- and a number other than 0 has no zero in front
pub decimal_front : (n : ℕ) → 0 < n → 48 < get_or (decimal_of n) 0 0
decimal_front = decimal_ind (λ n. 0 < n → 48 < get_or (decimal_of n) 0 0) (λ n h p. rw (decimal_one n h) (omega arith)) more_front
  where
    more_front : (n : ℕ) → 10 ≤ n → (0 < n / 10 → 48 < get_or (decimal_of (n / 10)) 0 0) → 0 < n → 48 < get_or (decimal_of n) 0 0
    more_front n h f p = rw (decimal_more n h) (front_more (decimal_of (n / 10)) ((48 + n % 10) ∷ []) (f (omega arith)))

-- so many digits, and no more, have the numbers below that power of ten
pub decimal_length : (k n : ℕ) → n < 10 ^ suc k → length (decimal_of n) ≤ suc k
decimal_length zero n h = rw (decimal_one n h) (omega arith)
decimal_length (suc k) n h =
    cases_lt n 10 (λ l. rw (decimal_one n l) (omega arith))
    (λ l.
    let i : n < 10 ^ suc k * 10 = rw (pow-suc 10 (suc k)) at h in
    let j : length (decimal_of (n / 10)) ≤ suc k = decimal_length k (n / 10) (omega arith) in
    rw (decimal_more n l, length-append) (omega arith))
