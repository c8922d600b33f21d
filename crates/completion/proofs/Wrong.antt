-- Statements like those of Sums that are wrong: for each a relation and sets for which it fails. Assumes nothing.
use mathlib.Core.Path.{◌≡◌, refl, sym, ◌∙◌, subst}
use mathlib.Core.Logic.Dec
use mathlib.Core.Logic.{◌⊎◌, ⊎_elim}
use mathlib.Core.List.{[], ◌∷◌}
use Prim.Native.Nat.{ℕ, zero, suc, ◌^◌, ◌≤◌, ◌<◌}
use native.Mathlib.Omega.{arith}
use native.Mathlib.Decide.{ℕ_discrete, dec_lt}
use lib.Bits.{bit_and}
use lib.ListN.{get_or}
use Rattle.sets.specs.Bit.{Has}
use Rattle.sets.specs.Reach.{Reaches}
use Rattle.sets.specs.Reach.Reaches.{here, step}
use Rattle.sets.proofs.BitLaws.{bit_of_and}
use Rattle.sets.proofs.TestLaws.{and_true}
use Rattle.sets.proofs.HasLaws.{has_none, one_has}
use Rattle.completion.specs.Completion.{Among, Join, Completed}
use Rattle.completion.specs.Sums.{Decided, Same, joined}
use Rattle.completion.proofs.Sums.{add_up}

-- "what is in a completed set is in J", for all relations and sets
abbrev InJoin : ((ℕ → ℕ → Type 0) → (ℕ → ℕ) → ℕ → ℕ → Type 0) → Type 1
InJoin J = (E : ℕ → ℕ → Type 0) (k : ℕ) (F F' : ℕ → ℕ) → Among E k → Completed E k F F' → (v m : ℕ) → v < k → Has (F' v) m → J E F v m

-- "where the starts are made by S of two families, the completed sets are made by T of theirs", for all relations and sets
abbrev Carries : ((ℕ → ℕ) → (ℕ → ℕ) → ℕ → ℕ) → ((ℕ → ℕ) → (ℕ → ℕ) → ℕ → ℕ) → Type 1
Carries S T = (E : ℕ → ℕ → Type 0) (k : ℕ) (F G H F' G' H' : ℕ → ℕ) → Among E k → Completed E k F F' → Completed E k G G' → Completed E k H H'
    → Same k H (S F G) → Same k H' (T F' G')

-- the two that are right
pub in_join : InJoin Join
in_join E k F F' a c v m h i = ((add_up a).is_join c v m h).0 i

pub join_to_join : Carries joined joined
join_to_join E k F G H F' G' H' a f g h e = (add_up a).adds f g h e

-- the meet of two families, and the first of them alone
abbrev meet : (ℕ → ℕ) → (ℕ → ℕ) → ℕ → ℕ
meet F G v = bit_and (F v) (G v)

abbrev first : (ℕ → ℕ) → (ℕ → ℕ) → ℕ → ℕ
first F G v = F v

-- ---- the relations

-- no node is related to any: all sets are complete
abbrev None : ℕ → ℕ → Type 0
None v w = ⊥

none_among : Among None 1
none_among v w h e = absurd e

none_completes : (F : ℕ → ℕ) → Completed None 1 F F
none_completes F = record { only = λ v m h i. (v, here, i); all = λ v m h j. go m j.1 j.2 }
  where
    go : {v u : ℕ} (m : ℕ) → Reaches None v u → Has (F u) m → Has (F v) m
    go m here i = i
    go m (step e r) i = absurd e

-- 0 is related to 1, and 1 to 2
abbrev Chain : ℕ → ℕ → Type 0
Chain v w = (w ≡ suc v) × (w < 3)

chain_among : Among Chain 3
chain_among v w h e = e.1

chain_decided : Decided Chain
chain_decided v w = Dec.and (ℕ_discrete w (suc v)) (dec_lt w 3)

-- the sets of three nodes
abbrev sets : ℕ → ℕ → ℕ → ℕ → ℕ
sets a b c v = get_or (a ∷ b ∷ c ∷ []) v 0

chain_some : (F : ℕ → ℕ) → (F' : ℕ → ℕ) × Completed Chain 3 F F'
chain_some = (add_up chain_among).some chain_decided

-- ---- the wrong statements

-- a join of the nodes reached in one step or more, so that the node itself is left out
pub without_itself : InJoin (λ E F v m. (w : ℕ) × E v w × Join E F w m) → ⊥
without_itself claim = (claim None 1 (λ _. 2 ^ 0) (λ _. 2 ^ 0) none_among (none_completes _) 0 0 (omega arith) (one_has 0)).1

-- a join of the node and of those that it is related to: one step only
pub one_step : InJoin (λ E F v m. Has (F v) m ⊎ ((w : ℕ) × E v w × Has (F w) m)) → ⊥
one_step claim =
    let F : ℕ → ℕ = sets 0 0 (2 ^ 0) in
    let c = chain_some F in
    let two : Reaches Chain 0 2 = step {b = 1} (refl, omega arith) (step {b = 2} (refl, omega arith) here) in
    ⊎_elim (has_none 0) (λ p. has_none 0 (subst (λ (x : ℕ). Has (F x) 0) p.1.0 p.2))
    (claim Chain 3 F c.0 chain_among c.1 0 0 (omega arith) (c.1.all 0 0 (omega arith) (2, two, one_has 0)))

-- a join along the relation backwards
pub backwards : InJoin (λ E. Join (λ v w. E w v)) → ⊥
backwards claim =
    let F : ℕ → ℕ = sets 0 (2 ^ 0) 0 in
    let c = chain_some F in
    let one : Reaches Chain 0 1 = step {b = 1} (refl, omega arith) here in
    let j = claim Chain 3 F c.0 chain_among c.1 0 0 (omega arith) (c.1.all 0 0 (omega arith) (1, one, one_has 0)) in
    let e : j.0 ≡ 0 = omega (arith, down j.1) in
    has_none 0 (subst (λ (x : ℕ). Has (F x) 0) e j.2)
  where
    down : {v u : ℕ} → Reaches (λ (v w : ℕ). Chain w v) v u → u ≤ v
    down here = omega arith
    down (step e r) = omega (arith, e.0, down r)

-- without edges, for the families whose sets are all 0 and all 1
none_carries : (T : (ℕ → ℕ) → (ℕ → ℕ) → ℕ → ℕ) → Carries joined T → 1 ≡ T (λ _. 0) (λ _. 1) 0
none_carries T claim =
    claim None 1 (λ _. 0) (λ _. 1) (λ _. 1) (λ _. 0) (λ _. 1) (λ _. 1) none_among (none_completes _) (none_completes _) (none_completes _) (λ v h. refl) 0 (omega arith)

-- one family left out
pub one_family : Carries joined first → ⊥
one_family claim = let e : ◌≡◌ {A = ℕ} 1 0 = none_carries first claim in omega arith

-- a meet for the join
pub join_to_meet : Carries joined meet → ⊥
join_to_meet claim = let e : ◌≡◌ {A = ℕ} 1 0 = none_carries meet claim in omega arith

-- completing does nothing
pub does_nothing : ((E : ℕ → ℕ → Type 0) (k : ℕ) (F F' F'' : ℕ → ℕ) → Among E k → Completed E k F F' → Completed E k F' F'' → Same k F'' F) → ⊥
does_nothing claim =
    let F : ℕ → ℕ = sets 0 (2 ^ 0) 0 in
    let a = chain_some F in
    let b = chain_some a.0 in
    let one : Reaches Chain 0 1 = step {b = 1} (refl, omega arith) here in
    let has = b.1.all 0 0 (omega arith) (0, here, a.1.all 0 0 (omega arith) (1, one, one_has 0)) in
    has_none 0 (subst (λ (s : ℕ). Has s 0) (claim Chain 3 F a.0 b.0 chain_among a.1 b.1 0 (omega arith)) has)

-- a meet for both joins
pub meet_to_meet : Carries meet meet → ⊥
meet_to_meet claim =
    let f = chain_some (sets (2 ^ 0) 0 0) in
    let g = chain_some (sets 0 (2 ^ 0) 0) in
    let h = chain_some (λ _. 0) in
    let one : Reaches Chain 0 1 = step {b = 1} (refl, omega arith) here in
    let in_both = bit_of_and (f.0 0) (g.0 0) 0 ∙ and_true (f.1.all 0 0 (omega arith) (0, here, one_has 0)) (g.1.all 0 0 (omega arith) (1, one, one_has 0)) in
    let same = claim Chain 3 (sets (2 ^ 0) 0 0) (sets 0 (2 ^ 0) 0) (λ _. 0) f.0 g.0 h.0 chain_among f.1 g.1 h.1 meets 0 (omega arith) in
    has_none 0 (h.1.only 0 0 (omega arith) (subst (λ (s : ℕ). Has s 0) (sym same) in_both)).2
  where
    meets : (v : ℕ) → v < 3 → 0 ≡ bit_and (sets (2 ^ 0) 0 0 v) (sets 0 (2 ^ 0) 0 v)
    meets zero l = refl
    meets (suc zero) l = refl
    meets (suc (suc zero)) l = refl
    meets (suc (suc (suc v))) l = absurd (omega arith)
