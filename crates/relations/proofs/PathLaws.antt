-- Paths of transitions, found from their end.
use mathlib.Core.Path.{◌≡◌, refl, sym, ◌∙◌, subst}
use mathlib.Core.List.{List}
use mathlib.Core.Bool.{false, ◌||◌, false≢true}
use mathlib.Core.Logic.{◌⊎◌, inl, inr, ⊎_elim}
use Prim.Native.Nat.{ℕ, suc, ◌-◌, ◌≤◌, ◌<◌}
use native.Mathlib.Omega.{arith}
use lib.Dec.{eqb}
use borrow.Author.Tests.{eqb-true, eq-eqb}
use Rattle.sets.proofs.HasLaws.{lt_or_ge, or_cases, or_right}
use Rattle.items.specs.Item.{item}
use Rattle.state_sets.specs.Words.{Lowest}
use Rattle.transitions.specs.Data.{Enters}
use Rattle.relations.specs.Path.{Path, States}
use Rattle.relations.specs.Path.Path.{here, step}
use Rattle.relations.specs.Steps.{Into}

module _ {G : ℕ → ℕ → ℕ → Type 0} {f : ℕ → ℕ} {d q : ℕ} where
  -- no path goes back
  pub path_beyond : {i p : ℕ} → Path G f d q i p → d < i → ⊥
  path_beyond (here e k) h = omega arith
  path_beyond (step s g r) h = path_beyond r (omega arith)

  pub path_end : {i p : ℕ} → Path G f d q i p → i ≡ d → p ≡ q
  path_end (here e k) h = k
  path_end (step s g r) h = absurd (path_beyond r (omega arith))

-- one kind of transitions for another
pub path_map : {G H : ℕ → ℕ → ℕ → Type 0} {f : ℕ → ℕ} {d q i p : ℕ} → ((p x s : ℕ) → G p x s → H p x s) → Path G f d q i p → Path H f d q i p
path_map m (here e k) = here e k
path_map m (step {i} {p} s g r) = step s (m p _ s g) (path_map m r)

module _ (w : List ℕ) (f : ℕ → ℕ) (d q : ℕ) where
  -- a path that begins before dot j passes through a state there
  path_through : (j : ℕ) {i p : ℕ} → Path (Enters w) f d q i p → i < j → j ≤ d → (t : ℕ) × (t < 256) × Path (Enters w) f d q j t
  path_through j (here e k) h l = absurd (omega arith)
  path_through j (step {i} {p} s g r) h l = go (lt_or_ge (suc i) j) (λ b. path_through j r b l)
    where
      go : (suc i < j) ⊎ (j ≤ suc i) → (suc i < j → (t : ℕ) × (t < 256) × Path (Enters w) f d q j t) → (t : ℕ) × (t < 256) × Path (Enters w) f d q j t
      go (inl b) more = more b
      go (inr b) more = let e : suc i ≡ j = omega arith in (s, g.into, subst (λ (y : ℕ). Path (Enters w) f d q y s) e r)

  pub back_start : (s t : List ℕ) → ((k : ℕ) → item s k ≡ false) → ((k : ℕ) → item t k ≡ (item s k || eqb q k)) → States t (Path (Enters w) f d q d)
  back_start s t none one = record {
    only = λ p l g. ⊎_elim (λ z. absurd (false≢true (sym (none p) ∙ z))) (λ z. here refl (sym (eqb-true q p z))) (or_cases (item s p) (eqb q p) (sym (one p) ∙ g));
    all = λ p l r. one p ∙ or_right (item s p) (eqb q p) (eq-eqb q p (sym (path_end r refl)));
  }

  -- no state is left, so no path comes from before
  pub back_stop : (i v : ℕ) (s : List ℕ) → 0 < i → i ≤ d → Lowest s v → v ≡ 256 → States s (Path (Enters w) f d q i) → States s (Path (Enters w) f d q 0)
  back_stop i v s h l low e S = record {
    only = λ p g m. absurd (false≢true (sym (low.none e p g) ∙ m));
    all = λ p g r. let t = path_through i r h l in absurd (false≢true (sym (low.none e t.0 t.1) ∙ S.all t.0 t.1 t.2));
  }

  back_one : (i : ℕ) (s t : List ℕ) → 0 < i → i ≤ d → States s (Path (Enters w) f d q i) → States t (Into w s (f (i - 1))) → States t (Path (Enters w) f d q (i - 1))
  back_one i s t h l S T = record {
    only = λ p g m. let j = T.only p g m in step j.state j.enters (rw e at (S.only j.state j.enters.into j.member));
    all = λ p g r. T.all p g (split p r);
  }
    where
      e : i ≡ suc (i - 1)
      e = omega arith

      split : (p : ℕ) → Path (Enters w) f d q (i - 1) p → Into w s (f (i - 1)) p
      split p (here z k) = absurd (omega arith)
      split p (step t g r) = record { state = t; member = S.all t g.into (rw (← e) at r); enters = g }

  pub back_more : (i v : ℕ) (s t : List ℕ) → 0 < i → i ≤ d → v ≡ f (i - 1) → States s (Path (Enters w) f d q i) → States t (Into w s v) → States t (Path (Enters w) f d q (i - 1))
  back_more i v s t h l e S T = back_one i s t h l S (rw e at T)
