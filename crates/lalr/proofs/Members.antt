-- The members of `with' s k`: those of s, and k.
use mathlib.Core.Path.{◌≡◌, refl, sym, ap, ◌∙◌, subst}
use mathlib.Core.Bool.{Bool, true, false, ◌||◌, ◌&&◌}
use mathlib.Core.List.{List, [], ◌∷◌, Memᴰ}
use Prim.Native.Nat.{ℕ, ◌+◌, ◌^◌, ◌≤◌, ◌<◌}
use native.Mathlib.Omega.{arith}
use native.Mathlib.Nat.{le_refl, le_trans}
use native.Mathlib.Decide.{ℕ_discrete}
use lib.Bits.{bit_or, bit_and, or_disjoint, or_lt}
use lib.Pow.{pow-lt}
use lib.Dec.{eqb}
use borrow.Author.Tests.{eq-eqb, ne_eqb, eqb-true}
use Rattle.sets.specs.Bit.{bit}
use Rattle.sets.proofs.BitLaws.{bit_of_or, bit_of_and, bit_pow, bit_zero, bits_eq}
use Rattle.lalr.specs.ComputedSets.{with', with_all}

-- `with'` is the union with one member
with_or : (s k : ℕ) → with' s k ≡ bit_or s (2 ^ k)
with_or s k = go (bit s k) refl
  where
    there : (b c : Bool) → (c ≡ true → b ≡ true) → (b || c) ≡ b
    there true c h = refl
    there false true h = sym (h refl)
    there false false h = refl

    apart : (b c : Bool) → (c ≡ true → b ≡ false) → (b && c) ≡ false
    apart true true h = h refl
    apart true false h = refl
    apart false c h = refl

    at : (b : Bool) → bit s k ≡ b → (m : ℕ) → eqb k m ≡ true → bit s m ≡ b
    at b e m h = subst (λ (x : ℕ). bit s x ≡ b) (eqb-true k m h) e

    go : (b : Bool) → bit s k ≡ b → with' s k ≡ bit_or s (2 ^ k)
    go true e = rw (e, with') (bits_eq s (bit_or s (2 ^ k)) (λ m. sym (rw (bit_of_or s (2 ^ k) m, bit_pow k m) (there (bit s m) (eqb k m) (at true e m)))))
    go false e =
        rw (e, with')
        (sym (or_disjoint s (2 ^ k) (bits_eq (bit_and s (2 ^ k)) 0 (λ m. rw (bit_of_and s (2 ^ k) m, bit_pow k m, bit_zero m) (apart (bit s m) (eqb k m) (at false e m))))))

pub has_with_same : (s k : ℕ) → bit (with' s k) k ≡ true
has_with_same s k = rw (with_or s k, bit_of_or s (2 ^ k) k, bit_pow k k, eq-eqb k k refl) (last (bit s k))
  where
    last : (b : Bool) → (b || true) ≡ true
    last true = refl
    last false = refl

pub has_with_other : (s k j : ℕ) → (j ≡ k → ⊥) → bit (with' s k) j ≡ bit s j
has_with_other s k j n = rw (with_or s k, bit_of_or s (2 ^ k) j, bit_pow k j, ne_eqb k j (λ e. n (sym e))) (last (bit s j))
  where
    last : (b : Bool) → (b || false) ≡ b
    last true = refl
    last false = refl

pub with_grows : (s k : ℕ) → s ≤ with' s k
with_grows s k = go (bit s k) refl
  where
    go : (b : Bool) → bit s k ≡ b → s ≤ with' s k
    go true e = rw (e, with') (le_refl s)
    go false e = rw (e, with') (omega arith)

pub with_stays : (n s k : ℕ) → k < n → s < 2 ^ n → with' s k < 2 ^ n
with_stays n s k l h = rw (with_or s k) (or_lt n s (2 ^ k) h (pow-lt l))

pub data All (P : ℕ → Type 0) : List ℕ → Type 0 where
  none : All P []
  some : {k : ℕ} {ks : List ℕ} → P k → All P ks → All P (k ∷ ks)

pub all_grow : (s : ℕ) (ks : List ℕ) → s ≤ with_all s ks
all_grow s [] = le_refl s
all_grow s (k ∷ ks) = le_trans (with_grows s k) (all_grow (with' s k) ks)

pub all_stay : (n s : ℕ) {ks : List ℕ} → All (λ k. k < n) ks → s < 2 ^ n → with_all s ks < 2 ^ n
all_stay n s none h = h
all_stay n s (some {k = k} l ls) h = all_stay n (with' s k) ls (with_stays n s k l h)

-- a set that a member leaves alone has it
has_of_same : (s k : ℕ) → with' s k ≡ s → bit s k ≡ true
has_of_same s k e = subst (λ (x : ℕ). bit x k ≡ true) e (has_with_same s k)

-- a set that the list leaves alone has all of the list
pub has_of_all : (s : ℕ) (ks : List ℕ) → with_all s ks ≡ s → {j : ℕ} → Memᴰ j ks → bit s j ≡ true
has_of_all s [] e {j = j} m = elim m [ ]
has_of_all s (k ∷ ks) e (Memᴰ.head {x = x} p) =
    let g : s ≤ with' s x = with_grows s x in
    let g2 : with' s x ≤ with_all (with' s x) ks = all_grow (with' s x) ks in
    let q : with' s x ≡ s = omega arith in
    subst (λ (i : ℕ). bit s i ≡ true) (sym p) (has_of_same s x q)
has_of_all s (k ∷ ks) e (Memᴰ.tail m) =
    let g : s ≤ with' s k = with_grows s k in
    let g2 : with' s k ≤ with_all (with' s k) ks = all_grow (with' s k) ks in
    let q : s ≡ with' s k = omega arith in
    has_of_all s ks (ap (λ (x : ℕ). with_all x ks) q ∙ e) m

-- what holds of the set's members and of the list holds of the members of both
pub all_members : (P : ℕ → Type 0) (s : ℕ) {ks : List ℕ} → All P ks → ((j : ℕ) → bit s j ≡ true → P j) → (j : ℕ) → bit (with_all s ks) j ≡ true → P j
all_members P s none h j e = h j e
all_members P s (some {k = k} p ps) h i f = all_members P (with' s k) ps (λ j e. go j e (ℕ_discrete j k)) i f
  where
    go : (j : ℕ) → bit (with' s k) j ≡ true → Dec (j ≡ k) → P j
    go j e (yes q) = subst P (sym q) p
    go j e (no q) = h j (sym (has_with_other s k j q) ∙ e)

pub with_keeps : (s k j : ℕ) → bit s j ≡ true → bit (with' s k) j ≡ true
with_keeps s k j e = go (ℕ_discrete j k)
  where
    go : Dec (j ≡ k) → bit (with' s k) j ≡ true
    go (yes q) = subst (λ (x : ℕ). bit (with' s k) x ≡ true) (sym q) (has_with_same s k)
    go (no q) = has_with_other s k j q ∙ e

pub all_keep : (s : ℕ) (ks : List ℕ) (j : ℕ) → bit s j ≡ true → bit (with_all s ks) j ≡ true
all_keep s [] j e = e
all_keep s (k ∷ ks) j e = all_keep (with' s k) ks j (with_keeps s k j e)

pub has_power : (k : ℕ) → bit (2 ^ k) k ≡ true
has_power k = bit_pow k k ∙ eq-eqb k k refl

pub has_power_only : (k j : ℕ) → bit (2 ^ k) j ≡ true → j ≡ k
has_power_only k j e = sym (eqb-true k j (sym (bit_pow k j) ∙ e))
