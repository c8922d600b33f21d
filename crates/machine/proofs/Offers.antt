-- Laws of the word of those below a number that have a property.
use mathlib.Core.Path.{◌≡◌, refl, sym, ap, ◌∙◌}
use mathlib.Core.Logic.{◌↔◌, ⊎_elim}
use mathlib.Core.Bool.{Bool, true, false}
use Prim.Native.Nat.{ℕ, zero, suc, ◌+◌, ◌*◌, ◌^◌, ◌<◌}
use native.Mathlib.Nat.{pow-suc, zero-mul, zero-add, one-mul}
use native.Mathlib.Omega.{arith}
use native.Mathlib.Decide.{dec_lt}
use lib.Bits.{bit_or, or_shifted_r}
use Rattle.sets.specs.Bit.{bit, one_if, Has}
use Rattle.sets.proofs.BitLaws.{bits_eq}
use Rattle.sets.proofs.HasLaws.{has_none, has_or, has_one, one_has, or_has_l, or_has_r}
use Rattle.machine.specs.ComputedRun.{word_of}

-- two sets with the same members are one
same_test : (p q : Bool) → (p ≡ true → q ≡ true) → (q ≡ true → p ≡ true) → p ≡ q
same_test true q f g = sym (f refl)
same_test false true f g = g refl
same_test false false f g = refl

pub same_members : (v w : ℕ) → ((m : ℕ) → Has v m ↔ Has w m) → v ≡ w
same_members v w h = bits_eq v w (λ m. same_test (bit v m) (bit w m) (h m).0 (h m).1)

-- a word below 2 ^ k, with bit k put in or not
bit_none : (k w : ℕ) → w ≡ one_if false * 2 ^ k + w
bit_none k w = sym (ap (λ (x : ℕ). x + w) (zero-mul (2 ^ k)) ∙ zero-add w)

bit_one : (k w : ℕ) → w < 2 ^ k → bit_or w (2 ^ k) ≡ one_if true * 2 ^ k + w
bit_one k w g = ap (bit_or w) (sym (one-mul (2 ^ k))) ∙ or_shifted_r 1 k w g

bit_lt : (b : Bool) (k w : ℕ) → w < 2 ^ k → one_if b * 2 ^ k + w < 2 ^ suc k
bit_lt false k w h = omega (arith, pow-suc 2 k)
bit_lt true k w h = omega (arith, pow-suc 2 k)

module _ (p : ℕ → Bool) where
  pub word_lt : (k : ℕ) → word_of p k < 2 ^ k
  unfolding word_of
  word_lt zero = omega arith
  word_lt (suc k) = bit_lt (p k) k (word_of p k) (word_lt k)

  word_has : (k m : ℕ) → Has (word_of p k) m → (m < k) × (p m ≡ true)
  unfolding word_of
  word_has zero m h = absurd (has_none m h)
  word_has (suc k) m h = go (p k) refl (word_has k m) h
    where
      go : (b : Bool) → p k ≡ b → (Has (word_of p k) m → (m < k) × (p m ≡ true)) → Has (one_if b * 2 ^ k + word_of p k) m → (m < suc k) × (p m ≡ true)
      go false e ih h = let z = ih (rw (← bit_none k (word_of p k)) at h) in (omega (arith, z.0), z.1)
      go true e ih h =
          ⊎_elim
          (λ w. let z = ih w in (omega (arith, z.0), z.1))
          (λ w. let em : k ≡ m = has_one k m w in (omega arith, ap p (sym em) ∙ e))
          (has_or (word_of p k) (2 ^ k) m (rw (← bit_one k (word_of p k) (word_lt k)) at h))

  has_word : (k m : ℕ) → m < k → p m ≡ true → Has (word_of p k) m
  unfolding word_of
  has_word zero m h n = absurd (omega arith)
  has_word (suc k) m h n = go (p k) refl (dec_lt m k) (λ b. has_word k m b n)
    where
      go : (b : Bool) → p k ≡ b → Dec (m < k) → (m < k → Has (word_of p k) m) → Has (one_if b * 2 ^ k + word_of p k) m
      go false e (yes b) ih = rw (← bit_none k (word_of p k)) (ih b)
      go false e (no b) ih = let em : m ≡ k = omega (arith, b) in let z : ◌≡◌ {A = Bool} true false = sym n ∙ ap p em ∙ e in let y : ◌≡◌ {A = ℕ} 0 1 = cc in absurd (omega arith)
      go true e (yes b) ih = rw (← bit_one k (word_of p k) (word_lt k)) (or_has_l (word_of p k) (2 ^ k) m (ih b))
      go true e (no b) ih =
          let em : k ≡ m = omega (arith, b) in
          rw (← bit_one k (word_of p k) (word_lt k)) (or_has_r (word_of p k) (2 ^ k) m (rw (← em) (one_has k)))

  pub word_members : (k m : ℕ) → Has (word_of p k) m ↔ ((m < k) × (p m ≡ true))
  word_members k m = (word_has k m, λ z. has_word k m z.0 z.1)

-- a word whose members are below k is below 2 ^ k
pub word_below : (w k : ℕ) → ((m : ℕ) → Has w m → m < k) → w < 2 ^ k
word_below w k h =
    let e : w ≡ word_of (bit w) k = same_members w (word_of (bit w) k) (λ m. (λ z. (word_members (bit w) k m).1 (h m z, z), λ z. ((word_members (bit w) k m).0 z).1)) in
    rw e (word_lt (bit w) k)
