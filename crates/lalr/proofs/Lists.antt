-- What stands in the lists of the definitions.
use mathlib.Core.Path.{◌≡◌, refl, sym, ap, ◌∙◌}
use mathlib.Core.Bool.{Bool, true, false}
use mathlib.Core.Logic.{◌⊎◌, inl, inr}
use mathlib.Core.List.Memᴰ
use mathlib.Core.List.{List, [], ◌∷◌, ◌++◌, Memᴰ}
use Prim.Native.Nat.{ℕ, zero, suc, ◌+◌, ◌*◌, ◌≤◌, ◌<◌}
use native.Mathlib.Omega.{arith}
use native.Mathlib.Nat.{zero-mul}
use native.Mathlib.Decide.{ℕ_discrete}
use lib.ListN.{length, get_or, length-append, get_or-append}
use lib.Seq.{get_or-append-add}
use lib.Arith.{digits_lt}
use Rattle.sets.specs.Lists.{each}
use Rattle.sets.specs.Bit.{bit}
use Rattle.lalr.specs.ComputedSets.{with', with_all, when}
use Rattle.lalr.specs.ComputedSets.{up_from}
use Rattle.sets.proofs.BitLaws.{bit_zero}
use Rattle.lalr.proofs.Members.{All, none, some, has_with_same, all_keep, all_members}

pub not-true : {b : Bool} → b ≡ true → b ≡ false → ⊥
not-true e f = let z : true ≡ false = sym e ∙ f in let y : ◌≡◌ {A = ℕ} 0 1 = cc in omega arith

pub not_cons : {A : Type 0} {b : A} {w : List A} → ◌≡◌ {A = List A} [] (b ∷ w) → ⊥
not_cons e = let z : ◌≡◌ {A = ℕ} 0 1 = cc in omega arith

pub each_in : {A : Type 0} {a : A} (n : ℕ) (f : ℕ → List A) (i : ℕ) → i < n → Memᴰ a (f i) → Memᴰ a (each n f)
each_in zero f i h m = absurd (omega arith)
each_in {A} {a} (suc n) f i h m = go (ℕ_discrete i n) (λ k. each_in n f i k m)
  where
    go : Dec (i ≡ n) → (i < n → Memᴰ a (each n f)) → Memᴰ a (each n f ++ f n)
    go (yes e) ih = Memᴰ.append_right (each n f) (rw e at m)
    go (no ne) ih = Memᴰ.append_left (f n) (ih (omega arith))

pub data From {A : Type 0} (a : A) (n : ℕ) (f : ℕ → List A) : Type 0 where
  from : (i : ℕ) → i < n → Memᴰ a (f i) → From a n f

pub each_from : {A : Type 0} {a : A} (n : ℕ) (f : ℕ → List A) → Memᴰ a (each n f) → From a n f
each_from zero f m = absurd (Memᴰ.not-nil m)
each_from {A} {a} (suc n) f m = go (Memᴰ.append_cases (each n f) m) (λ k. each_from n f k)
  where
    up : From a n f → From a (suc n) f
    up (from i h k) = from i (omega arith) k

    go : Memᴰ a (each n f) ⊎ Memᴰ a (f n) → (Memᴰ a (each n f) → From a n f) → From a (suc n) f
    go (inl k) ih = up (ih k)
    go (inr k) ih = from n (omega arith) k

pub when_in : {A : Type 0} {a : A} {l : List A} {b : Bool} → b ≡ true → Memᴰ a l → Memᴰ a (when b l)
when_in e m = rw e m

pub when_from : {A : Type 0} {a : A} {l : List A} (b : Bool) → Memᴰ a (when b l) → (b ≡ true) × Memᴰ a l
when_from true m = (refl, m)
when_from false m = absurd (Memᴰ.not-nil m)

pub up_in : (k n j : ℕ) → k ≤ j → j < k + n → Memᴰ j (up_from k n)
up_in k zero j l h = absurd (omega arith)
up_in k (suc n) j l h = go (ℕ_discrete j k) (λ m. up_in (suc k) n j m (omega arith))
  where
    go : Dec (j ≡ k) → (suc k ≤ j → Memᴰ j (up_from (suc k) n)) → Memᴰ j (k ∷ up_from (suc k) n)
    go (yes e) ih = Memᴰ.head e
    go (no ne) ih = Memᴰ.tail (ih (omega arith))

pub up_from_is : (k n j : ℕ) → Memᴰ j (up_from k n) → (k ≤ j) × (j < k + n)
up_from_is k zero j m = absurd (Memᴰ.not-nil m)
up_from_is k (suc n) j m = go (Memᴰ.cases_cons m) (λ t. up_from_is (suc k) n j t)
  where
    go : (j ≡ k) ⊎ Memᴰ j (up_from (suc k) n) → (Memᴰ j (up_from (suc k) n) → (suc k ≤ j) × (j < suc k + n)) → (k ≤ j) × (j < k + suc n)
    go (inl e) ih = (omega arith, omega arith)
    go (inr t) ih = let u = ih t in let a : suc k ≤ j = u.0 in let b : j < suc k + n = u.1 in (omega arith, omega arith)

pub all_of : {P : ℕ → Type 0} (xs : List ℕ) → ((j : ℕ) → Memᴰ j xs → P j) → All P xs
all_of [] h = none
all_of (x ∷ xs) h = some (h x (Memᴰ.head refl)) (all_of xs (λ j t. h j (Memᴰ.tail t)))

pub all_in : (s : ℕ) (ks : List ℕ) (j : ℕ) → Memᴰ j ks → bit (with_all s ks) j ≡ true
all_in s [] j m = elim m [ ]
all_in s (k ∷ ks) j (Memᴰ.head e) = all_keep (with' s k) ks j (rw e (has_with_same s k))
all_in s (k ∷ ks) j (Memᴰ.tail m) = all_in (with' s k) ks j m

-- the set of a list has just the list
pub set_of : (ks : List ℕ) (j : ℕ) → bit (with_all 0 ks) j ≡ true → Memᴰ j ks
set_of ks j e = all_members (λ i. Memᴰ i ks) 0 (all_of ks (λ i m. m)) (λ i h. absurd (not-true h (bit_zero i))) j e
