-- A stack area where states are pushed and popped: a push writes the place above the top, a pop writes nothing.
use Prim.Native.Nat.{ℕ, suc, ◌+◌, ◌-◌, ◌<◌}
use mathlib.Core.Path.{◌≡◌, refl, sym, ap, ◌∙◌}
use mathlib.Core.List.{List, [], ◌∷◌, ◌++◌, reverse, reverse-cons}
use lib.ListN.{length, drop, take, get_or, set, length-set, length-drop}
use lib.Seq.{take-suc-set, take-take, drop-cons}
use native.Mathlib.Omega.{arith}
use Rattle.tables.specs.Layout.{states}
use Rattle.machine.specs.ComputedRun.{top_of}
use Rattle.machine.proofs.Areas.{reverse_drop, top_at}
use Rattle.machine.proofs.Shifts.{more, below_drop}
use Rattle.unlisted_steps.specs.Spot.{Stands}
use Rattle.unlisted_steps.specs.declared.Spot.{Spot}

module _ {t st : List ℕ} {s : Spot} {q : ℕ} {qs : List ℕ} (h : Stands t st s q qs) where
  -- one state more
  pub pushed : (a left : ℕ) → a < states t → s.depth < length st
      → Stands t (set st s.depth a) (record { depth = s.depth + 1; left = left; top = a }) a (q ∷ qs)
  pushed a left b k = record {
    deep = omega (arith, h.deep);
    within = rw length-set (omega arith);
    stacked =
        let e : s.depth + 1 ≡ suc s.depth = omega arith in
        rw (e, reverse-cons a (q ∷ qs)) (take-suc-set st s.depth a k ∙ ap (λ (l : List ℕ). l ++ a ∷ []) h.stacked);
    top_is = refl;
    below = more b h.below;
  }

  module _ {n : ℕ} (k : n < s.depth) where
    under_length : s.depth - n ≡ length (get_or (q ∷ qs) n 0 ∷ drop (suc n) (q ∷ qs))
    under_length = let e = length-drop (suc n) (q ∷ qs) in omega (arith, h.deep)

    under_drop : drop n (q ∷ qs) ≡ get_or (q ∷ qs) n 0 ∷ drop (suc n) (q ∷ qs)
    under_drop = drop-cons (q ∷ qs) n 0 (omega (arith, h.deep))

    under_stacked : take (s.depth - n) st ≡ reverse (get_or (q ∷ qs) n 0 ∷ drop (suc n) (q ∷ qs))
    under_stacked =
        let d : length (q ∷ qs) ≡ s.depth = sym h.deep in
        sym (take-take (s.depth - n) s.depth st (omega arith))
        ∙ ap (take (s.depth - n)) h.stacked
        ∙ (rw d at (reverse_drop n (q ∷ qs) (omega (arith, d))))
        ∙ ap reverse under_drop

    under_top : get_or st (s.depth - n - 1) 0 ≡ get_or (q ∷ qs) n 0
    unfolding top_of
    under_top = top_at st (s.depth - n) (get_or (q ∷ qs) n 0) (drop (suc n) (q ∷ qs)) under_stacked under_length

    -- the state that n popped ones leave on top is read in the area
    pub drops : drop n (q ∷ qs) ≡ get_or st (s.depth - n - 1) 0 ∷ drop (suc n) (q ∷ qs)
    drops = rw under_top under_drop

    pub popped : (left : ℕ) → Stands t st (record { depth = s.depth - n; left = left; top = get_or st (s.depth - n - 1) 0 }) (get_or st (s.depth - n - 1) 0) (drop (suc n) (q ∷ qs))
    popped left = record {
      deep = under_length;
      within = let w = h.within in omega arith;
      stacked = rw under_top under_stacked;
      top_is = refl;
      below = rw drops at (below_drop n h.below);
    }
