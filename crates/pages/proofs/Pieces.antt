-- A piece of a list put together of parts: k numbers from place a on.
use mathlib.Core.Path.{◌≡◌, ap, ◌∙◌}
use mathlib.Core.List.{List, ◌++◌, append_assoc}
use Prim.Native.Nat.{ℕ, zero, suc, ◌+◌, ◌*◌, ◌<◌, ◌≤◌}
use native.Mathlib.Omega.{arith}
use native.Mathlib.Decide.{ℕ_discrete}
use lib.ListN.{length, take, drop, length-drop}
use lib.Seq.{take-append-le, drop-append-le, drop-append-add}
use Rattle.sets.specs.Lists.{each}
use Rattle.sets.proofs.ListLaws.{each_length}

-- a piece of x
front : (x y : List ℕ) (a k : ℕ) → a + k ≤ length x → take k (drop a (x ++ y)) ≡ take k (drop a x)
front x y a k h = rw (drop-append-le a x y (omega arith)) (take-append-le k (drop a x) y (omega (arith, length-drop a x)))

-- a piece behind x
pub behind : (x y : List ℕ) (n a k : ℕ) → length x ≡ n → take k (drop (n + a) (x ++ y)) ≡ take k (drop a y)
behind x y n a k e = rw (← e) (ap (take k) (drop-append-add x y a))

-- a piece of part i, where the parts have one length
pub each_piece : (n w : ℕ) (f : ℕ → List ℕ) (y : List ℕ) → ((i : ℕ) → i < n → length (f i) ≡ w) → (i a k : ℕ) → i < n → a + k ≤ w
    → take k (drop (i * w + a) (each n f ++ y)) ≡ take k (drop a (f i))
each_piece zero w f y h i a k hi ha = absurd (omega arith)
each_piece (suc n) w f y h i a k hi ha = rw (append_assoc (each n f) (f n) y) (go (ℕ_discrete i n) (λ l. each_piece n w f (f n ++ y) (λ i l. h i (omega arith)) i a k l ha))
  where
    go : Dec (i ≡ n) → (i < n → take k (drop (i * w + a) (each n f ++ (f n ++ y))) ≡ take k (drop a (f i))) → take k (drop (i * w + a) (each n f ++ (f n ++ y))) ≡ take k (drop a (f i))
    go (yes e) ih =
        let l : length (f n) ≡ w = h n (omega arith) in
        rw e (behind (each n f) (f n ++ y) (n * w) a k (each_length n w f (λ i l. h i (omega arith))) ∙ front (f n) y a k (omega arith))
    go (no ne) ih = ih (omega arith)
