-- Laws of an array of the merged card: how long it is, and what stands at each place.
use mathlib.Core.Path.{◌≡◌, refl, sym, ap, ◌∙◌}
use mathlib.Core.Logic.{⊎_elim}
use mathlib.Core.List.{List, [], ◌∷◌, ◌++◌, map, map-append}
use Prim.Native.Nat.{ℕ, zero, suc, ◌+◌, ◌-◌, ◌<◌, ◌≤◌}
use native.Mathlib.Omega.{arith}
use lib.ListN.{length, get_or, length-append, get_or-append}
use lib.Seq.{get_or-append-add, get_or-drop}
use Rattle.sets.specs.Lists.{each}
use Rattle.sets.proofs.ListLaws.{each_same, ones_length, ones_at}
use Rattle.sets.proofs.HasLaws.{lt_or_ge}
use Rattle.merged_card.specs.Merged.{array}

-- ---- one number at each place

pub same_ones : (n : ℕ) (f g : ℕ → ℕ) → ((i : ℕ) → i < n → f i ≡ g i) → each n (λ i. f i ∷ []) ≡ each n (λ i. g i ∷ [])
same_ones n f g e = each_same n (λ i. f i ∷ []) (λ i. g i ∷ []) (λ i h. ap (λ (x : ℕ). x ∷ []) (e i h))

pub map_each : (h : ℕ → ℕ) (n : ℕ) (f : ℕ → ℕ) → map h (each n (λ i. f i ∷ [])) ≡ each n (λ i. h (f i) ∷ [])
map_each h zero f = refl
map_each h (suc n) f = map-append h (each n (λ i. f i ∷ [])) (f n ∷ []) ∙ ap (λ (l : List ℕ). l ++ h (f n) ∷ []) (map_each h n f)

-- ---- the places of an array

-- behind a list of so many numbers
pub skip : (xs ys : List ℕ) (n k : ℕ) → length xs ≡ n → get_or (xs ++ ys) (n + k) 0 ≡ get_or ys k 0
skip xs ys n k e = rw (sym e) (get_or-append-add xs ys k 0)

-- a number below 2 + n + m: one of the first two, of the next n, or of the last m
pub data Place (n m : ℕ) : ℕ → Type 0 where
  new_first : Place n m 0
  new_second : Place n m 1
  of_first_is : (i : ℕ) → i < n → Place n m (2 + i)
  of_second_is : (j : ℕ) → j < m → Place n m (2 + (n + j))

pub place : (n m r : ℕ) → r < 2 + (n + m) → Place n m r
place n m zero h = new_first
place n m (suc zero) h = new_second
place n m (suc (suc r)) h = ⊎_elim low high (lt_or_ge r n)
  where
    low : r < n → Place n m (suc (suc r))
    low k = let e : 2 + r ≡ suc (suc r) = omega arith in let p : Place n m (2 + r) = of_first_is r k in rw e at p

    high : n ≤ r → Place n m (suc (suc r))
    high k = let e : 2 + (n + (r - n)) ≡ suc (suc r) = omega arith in let p : Place n m (2 + (n + (r - n))) = of_second_is (r - n) (omega arith) in rw e at p

module _ (x y n : ℕ) (f : ℕ → ℕ) (m : ℕ) (g : ℕ → ℕ) where
  pub array_length : length (array x y n f m g) ≡ 2 + (n + m)
  array_length = simp (length-append, ones_length) (omega arith)

  pub array_first : (i : ℕ) → i < n → get_or (array x y n f m g) (2 + i) 0 ≡ f i
  array_first i h = sym (get_or-drop 2 (array x y n f m g) i 0) ∙ get_or-append (each n (λ i. f i ∷ [])) (each m (λ j. g j ∷ [])) 0 i (rw (ones_length n f) h) ∙ ones_at n f i h

  pub array_second : (j : ℕ) → j < m → get_or (array x y n f m g) (2 + (n + j)) 0 ≡ g j
  array_second j h = sym (get_or-drop 2 (array x y n f m g) (n + j) 0) ∙ skip (each n (λ i. f i ∷ [])) (each m (λ j. g j ∷ [])) n j (ones_length n f) ∙ ones_at m g j h

  -- what all its numbers have
  pub array_all : (P : ℕ → Type 0) → P x → P y → ((i : ℕ) → i < n → P (f i)) → ((j : ℕ) → j < m → P (g j)) → (r : ℕ) → r < 2 + (n + m) → P (get_or (array x y n f m g) r 0)
  array_all P px py pf pg r h = go (place n m r h)
    where
      go : {r : ℕ} → Place n m r → P (get_or (array x y n f m g) r 0)
      go new_first = px
      go new_second = py
      go (of_first_is i k) = rw (array_first i k) (pf i k)
      go (of_second_is j k) = rw (array_second j k) (pg j k)
