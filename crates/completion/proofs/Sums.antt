-- Completed sets add up. Assumes nothing.
use mathlib.Core.Path.{◌≡◌, refl, sym, subst, ◌∙◌}
use mathlib.Core.Logic.{◌↔◌, ⊎_elim}
use mathlib.Core.Bool.{Bool, true, false, cond, false≢true}
use Prim.Native.Nat.{ℕ, ◌^◌, ◌<◌}
use lib.Dec.{eqb}
use borrow.Author.Tests.{eqb-true, eq-eqb}
use Rattle.sets.specs.Bit.{bit, Has}
use Rattle.sets.specs.Reach.{Reaches}
use Rattle.sets.specs.Reach.Reaches.{here}
use Rattle.sets.proofs.BitLaws.{bit_above, bit_bound}
use Rattle.sets.proofs.HasLaws.{no_bit, has_none, has_one, one_has, has_or, or_has_l, or_has_r}
use Rattle.completion.specs.Completion.{Among, Completed}
use Rattle.completion.specs.Sums.{Same, joined, only, AddUp}
use Rattle.completion.proofs.Laws.{join_reaches, reaches_inside, one_answer}
use Rattle.completion.proofs.Exists.{exists}

only_has : (u m v n : ℕ) → Has (only u m v) n → (v ≡ u) × (n ≡ m)
only_has u m v n = go (eqb v u) refl
  where
    go : (b : Bool) → eqb v u ≡ b → Has (cond b (2 ^ m) 0) n → (v ≡ u) × (n ≡ m)
    go true e h = (eqb-true v u e, sym (has_one m n h))
    go false e h = absurd (has_none n h)

has_only : (u m : ℕ) → Has (only u m u) m
has_only u m = rw (eq-eqb u u refl) (one_has m)

module _ {E : ℕ → ℕ → Type 0} {k : ℕ} where
  -- the joins of completed sets are the completed sets of the joined starts
  of_joined : {F G F' G' : ℕ → ℕ} → Completed E k F F' → Completed E k G G' → Completed E k (joined F G) (joined F' G')
  of_joined {F} {G} {F'} {G'} a b = record {
    only = λ v m h i.
        ⊎_elim (λ x. let j = a.only v m h x in (j.0, j.1, or_has_l (F j.0) (G j.0) m j.2))
        (λ x. let j = b.only v m h x in (j.0, j.1, or_has_r (F j.0) (G j.0) m j.2)) (has_or (F' v) (G' v) m i);
    all = λ v m h j.
        ⊎_elim (λ x. or_has_l (F' v) (G' v) m (a.all v m h (j.0, j.1, x))) (λ x. or_has_r (F' v) (G' v) m (b.all v m h (j.0, j.1, x)))
        (has_or (F j.0) (G j.0) m j.2);
  }

  pub end_same : {F F' F'' : ℕ → ℕ} → Completed E k F F' → Same k F'' F' → Completed E k F F''
  end_same c e = record {
    only = λ v m h i. c.only v m h (subst (λ (s : ℕ). Has s m) (e v h) i);
    all = λ v m h j. subst (λ (s : ℕ). Has s m) (sym (e v h)) (c.all v m h j);
  }

  alone : {F' : ℕ → ℕ} (u m : ℕ) → Completed E k (only u m) F' → (v n : ℕ) → v < k → Has (F' v) n ↔ ((n ≡ m) × Reaches E v u)
  alone u m c v n h = (
    λ i. (let j = c.only v n h i in let p = only_has u m j.0 n j.2 in (p.1, subst (Reaches E v) p.0 j.1)),
    λ p. c.all v n h (u, p.1, subst (Has (only u m u)) (sym p.0) (has_only u m)),
  )

  module _ (among : Among E k) where
    -- what stands beyond the nodes does not matter
    pub start_same : {F G F' : ℕ → ℕ} → Completed E k F F' → Same k F G → Completed E k G F'
    start_same c e = record {
      only = λ v m h i. let j = c.only v m h i in (j.0, j.1, subst (λ (s : ℕ). Has s m) (e j.0 (reaches_inside among h j.1)) j.2);
      all = λ v m h j. c.all v m h (j.0, j.1, subst (λ (s : ℕ). Has s m) (sym (e j.0 (reaches_inside among h j.1))) j.2);
    }

    -- completed sets are their own completed sets
    of_completed : {F F' : ℕ → ℕ} → Completed E k F F' → Completed E k F' F'
    of_completed {F} c = record {
      only = λ v m h i. (v, here, i);
      all = λ v m h j. c.all v m h (join_reaches F m j.1 (c.only j.0 m (reaches_inside among h j.1) j.2));
    }

    fits : {F F' : ℕ → ℕ} (n : ℕ) → Completed E k F F' → ((v : ℕ) → v < k → F v < 2 ^ n) → (v : ℕ) → v < k → F' v < 2 ^ n
    fits {F} {F'} n c small v h = bit_bound n (F' v) (λ m l. no_bit (bit (F' v) m) (λ i. let j = c.only v m h i in
        false≢true (sym (bit_above n (F j.0) m (small j.0 (reaches_inside among h j.1)) l) ∙ j.2)))

    -- a relation among nodes completes sets so that they add up
    pub add_up : AddUp E k
    add_up = record {
      is_join = λ c v m h. (c.only v m h, c.all v m h);
      adds = λ a b c e. one_answer (start_same c e) (of_joined a b);
      twice = λ a b. one_answer b (of_completed a);
      some = λ d F. exists E among d F;
      one = one_answer;
      of_joined = of_joined;
      of_completed = of_completed;
      alone = alone;
      fits = fits;
    }
