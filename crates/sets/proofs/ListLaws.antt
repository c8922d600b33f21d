-- Laws of lists made place by place.
use mathlib.Core.Path.{◌≡◌, refl, sym, ap, ◌∙◌}
use mathlib.Core.List.{List, [], ◌∷◌, ◌++◌}
use Prim.Native.Nat.{ℕ, zero, suc, ◌+◌, ◌*◌, ◌<◌}
use native.Mathlib.Omega.{arith}
use native.Mathlib.Nat.{zero-mul, mul-one}
use native.Mathlib.Decide.{ℕ_discrete}
use lib.ListN.{length, get_or, length-append, get_or-append}
use lib.Seq.{get_or-append-add, ext_get_or}
use lib.Arith.{digits_lt}
use Rattle.sets.specs.Lists.{each}

-- with parts of one length, the place of each
pub each_length : {A : Type 0} (n w : ℕ) (f : ℕ → List A) → ((i : ℕ) → i < n → length (f i) ≡ w) → length (each n f) ≡ n * w
each_length zero w f h = sym (zero-mul w)
each_length (suc n) w f h =
    let ih : length (each n f) ≡ n * w = each_length n w f (λ i k. h i (omega arith)) in
    let l : length (f n) ≡ w = h n (omega arith) in
    let s : length (each n f ++ f n) ≡ length (each n f) + length (f n) = length-append (each n f) (f n) in
    let m : suc n * w ≡ n * w + w = omega arith in
    s ∙ ap (λ (x : ℕ). x + length (f n)) ih ∙ ap (λ (x : ℕ). n * w + x) l ∙ sym m

pub each_at : {A : Type 0} (n w : ℕ) (f : ℕ → List A) (d : A) → ((i : ℕ) → i < n → length (f i) ≡ w) → (i j : ℕ) → i < n → j < w → get_or (each n f) (i * w + j) d ≡ get_or (f i) j d
each_at zero w f d h i j hi hj = absurd (omega arith)
each_at (suc n) w f d h i j hi hj = go (ℕ_discrete i n) (λ k. each_at n w f d (λ i k. h i (omega arith)) i j k hj)
  where
    len : length (each n f) ≡ n * w
    len = each_length n w f (λ i k. h i (omega arith))

    below : i < n → i * w + j < n * w
    below k = digits_lt k hj

    go : Dec (i ≡ n) → (i < n → get_or (each n f) (i * w + j) d ≡ get_or (f i) j d) → get_or (each n f ++ f n) (i * w + j) d ≡ get_or (f i) j d
    go (yes e) ih = rw (e, ← len) (get_or-append-add (each n f) (f n) j d)
    go (no ne) ih = let k : i < n = omega arith in get_or-append (each n f) (f n) d (i * w + j) (rw len (below k)) ∙ ih k

pub each_same : {A : Type 0} (n : ℕ) (f f' : ℕ → List A) → ((i : ℕ) → i < n → f i ≡ f' i) → each n f ≡ each n f'
each_same zero f f' h = refl
each_same {A} (suc n) f f' h = ap (λ (l : List A). l ++ f n) (each_same n f f' (λ i k. h i (omega arith))) ∙ ap (λ (l : List A). each n f' ++ l) (h n (omega arith))

-- ---- one number at each place

pub ones_length : (n : ℕ) (f : ℕ → ℕ) → length (each n (λ i. f i ∷ [])) ≡ n
ones_length n f = each_length n 1 (λ i. f i ∷ []) (λ i h. refl) ∙ mul-one n

pub ones_at : (n : ℕ) (f : ℕ → ℕ) (i : ℕ) → i < n → get_or (each n (λ i. f i ∷ [])) i 0 ≡ f i
ones_at n f i h = let e : i * 1 + 0 ≡ i = omega arith in ap (λ (j : ℕ). get_or (each n (λ i. f i ∷ [])) j 0) (sym e) ∙ each_at n 1 (λ i. f i ∷ []) 0 (λ i h. refl) i 0 h (omega arith)

-- a list by its places
pub each_list : (n : ℕ) (l : List ℕ) → length l ≡ n → each n (λ i. get_or l i 0 ∷ []) ≡ l
each_list n l h =
    let e = ones_length n (λ i. get_or l i 0) in
    ext_get_or 0 (each n (λ i. get_or l i 0 ∷ [])) l (e ∙ sym h) (λ i k. ones_at n (λ i. get_or l i 0) i (rw e at k))
