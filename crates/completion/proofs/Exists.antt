-- Completed sets exist, for any relation that can be told and any starting sets: what is reached is found as Warshall does, and then joined. Assumes nothing.
use mathlib.Core.Path.{◌≡◌, refl, subst}
use mathlib.Core.Logic.Dec
use mathlib.Core.Logic.{◌⊎◌, inl, inr, ⊎_elim}
use Prim.Native.Nat.{ℕ, zero, suc, ◌<◌}
use native.Mathlib.Omega.{arith}
use native.Mathlib.Decide.{ℕ_discrete}
use lib.Bits.{bit_or}
use Rattle.sets.specs.Bit.{Has}
use Rattle.sets.specs.Reach.{Reaches}
use Rattle.sets.specs.Reach.Reaches.{here, step}
use Rattle.sets.proofs.HasLaws.{below_suc, has_none, has_or, or_has_l, or_has_r}
use Rattle.completion.specs.Completion.{Among, Join, Completed}
use Rattle.completion.specs.Sums.{Decided}
use Rattle.completion.proofs.Laws.{reaches_trans, reaches_inside}

either : {P Q : Type 0} → Dec P → Dec Q → Dec (P ⊎ Q)
either (yes p) e = yes (inl p)
either (no n) (yes q) = yes (inr q)
either (no n) (no m) = no (⊎_elim n m)

module _ (E : ℕ → ℕ → Type 0) where
  -- u is v, or an edge away, or reached over nodes below j
  abbrev Over : ℕ → ℕ → ℕ → Type 0
  Over zero v u = (v ≡ u) ⊎ E v u
  Over (suc j) v u = Over j v u ⊎ (Over j v j × Over j j u)

  told : Decided E → (j v u : ℕ) → Dec (Over j v u)
  told d zero v u = either (ℕ_discrete v u) (d v u)
  told d (suc j) v u = either (told d j v u) (Dec.and (told d j v j) (told d j j u))

  sound : (j v u : ℕ) → Over j v u → Reaches E v u
  sound zero v u (inl e) = subst (Reaches E v) e here
  sound zero v u (inr e) = step e here
  sound (suc j) v u (inl o) = sound j v u o
  sound (suc j) v u (inr p) = reaches_trans (sound j v j p.0) (sound j j u p.1)

  -- one can go on at a node below j
  abbrev Composes : ℕ → Type 0
  Composes j = (a x b : ℕ) → x < j → Over j a x → Over j x b → Over j a b

  below : (j : ℕ) → Composes j → (a x b : ℕ) → x < j → Over (suc j) a x → Over (suc j) x b → Over (suc j) a b
  below j c a x b l (inl p) (inl q) = inl (c a x b l p q)
  below j c a x b l (inl p) (inr q) = inr (c a x j l p q.0, q.1)
  below j c a x b l (inr p) (inl q) = inr (p.0, c j x b l p.1 q)
  below j c a x b l (inr p) (inr q) = inr (p.0, q.1)

  last : (j a b : ℕ) → Over (suc j) a j → Over (suc j) j b → Over (suc j) a b
  last j a b p q = inr (⊎_elim (λ o. o) (λ o. o.0) p, ⊎_elim (λ o. o) (λ o. o.1) q)

  compose : (j : ℕ) → Composes j
  compose zero a x b h p q = absurd (omega arith)
  compose (suc j) a x b h p q =
      ⊎_elim (λ l. below j (compose j) a x b l p q) (λ e. last j a b (subst (Over (suc j) a) e p) (subst (λ (y : ℕ). Over (suc j) y b) e q)) (below_suc {i = x} {n = j} (omega arith))

  start : (j : ℕ) {v u : ℕ} → Over zero v u → Over j v u
  start zero o = o
  start (suc j) o = inl (start j o)

  full : {k v u : ℕ} → Among E k → v < k → Reaches E v u → Over k v u
  full {k} among h here = start k (inl refl)
  full {k} among h (step {a} {b} {c} e r) = compose k a b c (among a b h e) (start k (inr e)) (full among (among a b h e) r)

  -- the set s where P holds
  picked : {P : Type 0} → Dec P → ℕ → ℕ
  picked (yes p) s = s
  picked (no n) s = 0

  picked_has : {P : Type 0} (d : Dec P) (s m : ℕ) → Has (picked d s) m → P × Has s m
  unfolding picked
  picked_has (yes p) s m h = (p, h)
  picked_has (no n) s m h = absurd (has_none m h)

  has_picked : {P : Type 0} (d : Dec P) (s m : ℕ) → P → Has s m → Has (picked d s) m
  unfolding picked
  has_picked (yes p) s m q h = h
  has_picked (no n) s m q h = absurd (n q)

  -- the join of the sets of the nodes below n that are reached over nodes below k
  gather : Decided E → (ℕ → ℕ) → ℕ → ℕ → ℕ → ℕ
  gather d F k v zero = 0
  gather d F k v (suc n) = bit_or (gather d F k v n) (picked (told d k v n) (F n))

  module _ (d : Decided E) (F : ℕ → ℕ) (k v m : ℕ) where
    gathered : (n : ℕ) → Has (gather d F k v n) m → Join E F v m
    unfolding gather
    gathered zero h = absurd (has_none m h)
    gathered (suc n) h = ⊎_elim (gathered n) (λ i. let p = picked_has (told d k v n) (F n) m i in (n, sound k v n p.0, p.1)) (has_or _ _ m h)

    gathers : (n u : ℕ) → u < n → Over k v u → Has (F u) m → Has (gather d F k v n) m
    unfolding gather
    gathers zero u l o h = absurd (omega arith)
    gathers (suc n) u l o h =
        ⊎_elim (λ b. or_has_l (gather d F k v n) _ m (gathers n u b o h))
        (λ e. or_has_r (gather d F k v n) _ m (has_picked (told d k v n) (F n) m (subst (Over k v) e o) (subst (λ (x : ℕ). Has (F x) m) e h)))
        (below_suc {i = u} {n = n} (omega arith))

  pub exists : {k : ℕ} → Among E k → Decided E → (F : ℕ → ℕ) → (F' : ℕ → ℕ) × Completed E k F F'
  exists {k} among d F = (
    λ v. gather d F k v k,
    record {
      only = λ v m h i. gathered d F k v m k i;
      all = λ v m h j. gathers d F k v m k j.0 (reaches_inside among h j.1) (full among h j.1) j.2;
    },
  )
