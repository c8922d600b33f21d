-- Laws of an area whose first places hold a list and zeros behind it.
use mathlib.Core.Path.{◌≡◌, refl, sym, ◌∙◌}
use mathlib.Core.List.{List, [], ◌∷◌, ◌++◌, append_assoc}
use Prim.Native.Nat.{ℕ, suc, ◌-◌, ◌<◌, ◌≤◌, max}
use native.Mathlib.Omega.{arith}
use native.Mathlib.Decide.{dec_lt}
use lib.ListN.{length, drop, take, set, replicate, length-append, length-replicate, length-drop}
use lib.Seq.{take-append-le, drop_at, set_at, drop-cons}
use Rattle.sets.specs.Lists.{covered}

module _ (n : ℕ) (u area : List ℕ) where
  pub covered_length : length u ≤ n → n ≤ length area → length (covered n u area) ≡ length area
  unfolding covered
  covered_length h k = simp (length-append, length-replicate, length-drop) (omega arith)

  pub covered_front : (k : ℕ) → k ≤ length u → take k (covered n u area) ≡ take k u
  unfolding covered
  covered_front k h = take-append-le k u _ h

  pub covered_behind : drop (length u) (covered n u area) ≡ replicate (n - length u) 0 ++ drop n area
  unfolding covered
  covered_behind = drop_at u _ (length u) refl

-- with no zeros between
pub covered_exact : (u area : List ℕ) → covered (length u) u area ≡ u ++ drop (length u) area
unfolding covered
covered_exact u area = let e : length u - length u ≡ 0 = omega arith in rw e

-- one place more behind the list: a zero is overwritten, or a place that was never used
pub covered_push : (n : ℕ) (u area : List ℕ) (s : ℕ) → length u ≤ n → length u < length area
    → set (covered n u area) (length u) s ≡ covered (max n (suc (length u))) (u ++ s ∷ []) area
unfolding covered
covered_push n u area s h k = go (dec_lt (length u) n)
  where
    more : length (u ++ s ∷ []) ≡ suc (length u)
    more = length-append u (s ∷ []) ∙ (omega arith)

    joined : (v : List ℕ) → u ++ s ∷ v ≡ (u ++ s ∷ []) ++ v
    joined v = sym (append_assoc u (s ∷ []) v)

    go : Dec (length u < n) → set (covered n u area) (length u) s ≡ covered (max n (suc (length u))) (u ++ s ∷ []) area
    go (yes l) =
        let em : max n (suc (length u)) ≡ n = omega arith in
        let ez : n - length u ≡ suc (n - suc (length u)) = omega arith in
        rw (em, more, ez) (set_at u 0 _ s (length u) refl ∙ joined _)
    go (no l) =
        let en : n ≡ length u = omega arith in
        let em : max n (suc (length u)) ≡ suc (length u) = omega arith in
        let e0 : length u - length u ≡ 0 = omega arith in
        let e1 : suc (length u) - suc (length u) ≡ 0 = omega arith in
        rw (em, more, en, e0, e1, drop-cons area (length u) 0 k) (set_at u _ _ s (length u) refl ∙ joined _)
