-- What the tests say, and one law for each way of a loop that tests every number below n.
use mathlib.Core.Path.{◌≡◌, refl, sym, ap, ap₂, ◌∙◌}
use mathlib.Core.Bool.{Bool, true, false, ◌&&◌}
use mathlib.Core.Logic.{⊎_elim}
use Prim.Native.Nat.{ℕ, zero, suc, ◌+◌, ◌<◌, ◌≤◌}
use native.Mathlib.Nat.{add-zero, add-suc, not-suc-le-zero, eq-or-lt_of_le, le_of_suc-le-suc, le_antisymm}
use native.Mathlib.Numerals.{add-one}
use native.Mathlib.Omega.{arith}
use lib.Dec.{leb}
use borrow.Author.Tests.{leb-true, le-leb}
use Rattle.sets.specs.Tests.{all_below, between, unless, first_refusal}

-- ---- both of two tests

pub and_true : {a b : Bool} → a ≡ true → b ≡ true → (a && b) ≡ true
and_true e k = rw (e, k)

pub and_both : (a b : Bool) → (a && b) ≡ true → (a ≡ true) × (b ≡ true)
and_both true b e = (refl, e)
and_both false b e = let z : false ≡ true = e in (z, cc)

pub and_left : (a b : Bool) → (a && b) ≡ true → a ≡ true
and_left a b e = (and_both a b e).0

pub and_right : (a b : Bool) → (a && b) ≡ true → b ≡ true
and_right a b e = (and_both a b e).1

pub and_false : (b : Bool) → (b && false) ≡ false
and_false true = refl
and_false false = refl

pub and_one : (b : Bool) → (b && true) ≡ b
and_one true = refl
and_one false = refl

and_assoc : (a b c : Bool) → ((a && b) && c) ≡ (a && (b && c))
and_assoc true b c = refl
and_assoc false b c = refl

first_false : (a b : Bool) → false ≡ a → false ≡ (a && b)
first_false true b e = cc
first_false false b e = refl

-- ---- a test of every number below n

module _ (p : ℕ → Bool) where
  pub all_fails : (n i : ℕ) → i < n → p i ≡ false → false ≡ all_below n p
  unfolding all_below
  all_fails zero i h e = absurd (not-suc-le-zero h)
  all_fails (suc n) i h e =
      ⊎_elim
      (λ w. sym (ap (◌&&◌ (all_below n p)) (ap p (sym w) ∙ e) ∙ and_false (all_below n p)))
      (λ w. first_false (all_below n p) (p n) (all_fails n i w e))
      (eq-or-lt_of_le (le_of_suc-le-suc h))

  pub all_more : (i : ℕ) → all_below i p ≡ true → p i ≡ true → all_below (i + 1) p ≡ true
  unfolding all_below
  all_more i a e = rw (add-one, a, e)

  pub all_end : (n i : ℕ) → all_below i p ≡ true → i ≤ n → n ≤ i → true ≡ all_below n p
  all_end n i a h g = rw (le_antisymm g h) (sym a)

  -- one number more, in the values of a loop that joins its tests
  pub all_step : (i : ℕ) {b c : Bool} → b ≡ all_below i p → c ≡ p i → (b && c) ≡ all_below (i + 1) p
  unfolding all_below
  all_step i e k = rw (add-one, e, k)

  pub all_last : (n i : ℕ) {b : Bool} → b ≡ all_below i p → i ≤ n → n ≤ i → b ≡ all_below n p
  all_last n i e h g = rw (le_antisymm g h) e

  -- the first a numbers, and the others
  pub all_split : (a b : ℕ) → all_below (a + b) p ≡ (all_below a p && all_below b (λ i. p (a + i)))
  unfolding all_below
  all_split a zero = rw add-zero (sym (and_one (all_below a p)))
  all_split a (suc b) =
      rw add-suc (ap (λ (x : Bool). x && p (a + b)) (all_split a b) ∙ and_assoc (all_below a p) (all_below b (λ i. p (a + i))) (p (a + b)))

  pub all_at : (n : ℕ) → all_below n p ≡ true → (i : ℕ) → i < n → p i ≡ true
  unfolding all_below
  all_at zero a i h = absurd (not-suc-le-zero h)
  all_at (suc n) a i h =
      let b = and_both (all_below n p) (p n) a in
      ⊎_elim (λ w. ap p w ∙ b.1) (λ w. all_at n b.0 i w) (eq-or-lt_of_le (le_of_suc-le-suc h))

  pub all_true : (n : ℕ) → ((i : ℕ) → i < n → p i ≡ true) → all_below n p ≡ true
  unfolding all_below
  all_true zero h = refl
  all_true (suc n) h = and_true (all_true n (λ i k. h i (omega arith))) (h n (omega arith))

pub all_ext : (p q : ℕ → Bool) (n : ℕ) → ((i : ℕ) → i < n → p i ≡ q i) → all_below n p ≡ all_below n q
unfolding all_below
all_ext p q zero h = refl
all_ext p q (suc n) h = ap₂ ◌&&◌ (all_ext p q n (λ i k. h i (omega arith))) (h n (omega arith))

-- ---- bounds

pub between_true : (lo hi x : ℕ) → lo ≤ x → x ≤ hi → between lo hi x ≡ true
unfolding between
between_true lo hi x h k = and_true (le-leb lo x h) (le-leb x hi k)

pub between_at : (lo hi x : ℕ) → between lo hi x ≡ true → (lo ≤ x) × (x ≤ hi)
unfolding between
between_at lo hi x e = let b = and_both (leb lo x) (leb x hi) e in (leb-true lo x b.0, leb-true x hi b.1)

-- ---- a chain of refusals that refuses nothing

pub passes : (b : Bool) (k r : ℕ) → unless b (suc k) r ≡ 0 → (b ≡ true) × (r ≡ 0)
passes true k r e = (refl, e)
passes false k r e = absurd (omega arith)

pub neither : (m n : ℕ) → first_refusal m n ≡ 0 → (m ≡ 0) × (n ≡ 0)
neither zero n e = (refl, e)
neither (suc m) n e = absurd (omega arith)
