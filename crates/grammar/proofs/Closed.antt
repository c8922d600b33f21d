-- The nullable, the productive and the reachable symbols are the least sets that the productions close; the lowest useless nonterminal is one.
use Prim.Native.Nat.{ℕ, ◌≤◌, ◌<◌}
use mathlib.Core.Path.{◌≡◌, refl}
use mathlib.Core.Logic.{⊎_elim}
use mathlib.Core.List.{List, [], ◌∷◌, ◌++◌, append_assoc}
use native.Mathlib.Omega.{arith}
use Rattle.sets.proofs.HasLaws.{lt_or_ge}
use Rattle.grammar.specs.Grammar.{Grammar, Symbols, Derives}
use Rattle.grammar.specs.Useful.{Reachable, Productive, LowestUseless}
use Rattle.grammar.proofs.Yield.{Yields, nil, terminal, nonterminal, append, yield_terminals}
use Rattle.grammar.proofs.Derive.{derives_yields, yields_derives, derives_trans}

-- each symbol of the list is in s
pub data All (s : ℕ → Type 0) : List ℕ → Type 0 where
  none : All s []
  more : {a : ℕ} {w : List ℕ} → s a → All s w → All s (a ∷ w)

pub all_head : {s : ℕ → Type 0} {a : ℕ} {w : List ℕ} → All s (a ∷ w) → s a
all_head (more h t) = h

all_tail : {s : ℕ → Type 0} {a : ℕ} {w : List ℕ} → All s (a ∷ w) → All s w
all_tail (more h t) = t

all_join : {s : ℕ → Type 0} {u v : List ℕ} → All s u → All s v → All s (u ++ v)
all_join none b = b
all_join (more h a) b = more h (all_join a b)

all_parts : {s : ℕ → Type 0} (u : List ℕ) {v : List ℕ} → All s (u ++ v) → All s u × All s v
all_parts [] a = (none, a)
all_parts (x ∷ u) (more h a) = let t = all_parts u a in (more h t.0, t.1)

empty_parts : (u v : List ℕ) → u ++ v ≡ [] → (u ≡ []) × (v ≡ [])
empty_parts [] v e = (refl, e)
empty_parts (a ∷ u) v e = absurd (bad e)
  where
    bad : {l : List ℕ} → ◌≡◌ {A = List ℕ} (a ∷ l) [] → ⊥
    bad e = let z : ◌≡◌ {A = ℕ} 0 1 = cc in omega arith

module _ (g : Grammar) where
  -- ---- what the productions close

  empty_all : {l : List ℕ} → All (λ x. Derives g (x ∷ []) []) l → (p : List ℕ) × Yields g l p []
  empty_all none = ([], nil)
  empty_all (more d a) = (_, append g (derives_yields g d Symbols.none).1 (empty_all a).1)

  pub nullable_left : (r : ℕ) → r < g.productions → All (λ x. Derives g (x ∷ []) []) (g.right r) → Derives g (g.left r ∷ []) []
  nullable_left r h a = yields_derives g (nonterminal r h (empty_all a).1 nil)

  made_all : {l : List ℕ} → All (Productive g) l → (w : List ℕ) × (p : List ℕ) × Yields g l p w
  made_all none = ([], [], nil)
  made_all (more d a) = let y = derives_yields g d.derived d.terminals in let z = made_all a in (_, _, append g y.1 z.2)

  made : {x : ℕ} {p w : List ℕ} → Yields g (x ∷ []) p w → Productive g x
  made {w = w} y = record { made = w; terminals = yield_terminals g y; derived = yields_derives g y }

  pub productive_left : (r : ℕ) → r < g.productions → All (Productive g) (g.right r) → Productive g (g.left r)
  productive_left r h a = made (nonterminal r h (made_all a).2 nil)

  pub productive_terminal : (a : ℕ) → 0 < a → a < g.terminals → Productive g a
  productive_terminal a h k = made (terminal h k nil)

  pub reachable_start : Reachable g g.terminals
  reachable_start = record { front = []; behind = []; derived = Derives.stop }

  pub reachable_right : (r : ℕ) → r < g.productions → Reachable g (g.left r) → All (Reachable g) (g.right r)
  reachable_right r h t = go [] (g.right r) (derives_trans g t.derived (Derives.step t.front t.behind r h refl Derives.stop))
    where
      go : (u v : List ℕ) → Derives g (g.terminals ∷ []) (t.front ++ (u ++ (v ++ t.behind))) → All (Reachable g) v
      go u [] d = none
      go u (x ∷ v) d = more {a = x} (record { front = t.front ++ u; behind = v ++ t.behind; derived = rw append_assoc d }) (go (u ++ x ∷ []) v (rw (append_assoc u (x ∷ [])) d))

  -- ---- and only what every closed set has

  module _ (s : ℕ → Type 0) (closed : (r : ℕ) → r < g.productions → All s (g.right r) → s (g.left r)) where
    pub nullable_in : {β p w : List ℕ} → Yields g β p w → w ≡ [] → All s β
    nullable_in nil e = none
    nullable_in (terminal h k y) e = absurd (empty_bad e)
      where
        empty_bad : {a : ℕ} {l : List ℕ} → ◌≡◌ {A = List ℕ} (a ∷ l) [] → ⊥
        empty_bad e = let z : ◌≡◌ {A = ℕ} 0 1 = cc in omega arith
    nullable_in (nonterminal {u = u} {v = v} r h x y) e = let t = empty_parts u v e in more (closed r h (nullable_in x t.0)) (nullable_in y t.1)

    pub nullable_least : {x : ℕ} → Derives g (x ∷ []) [] → s x
    nullable_least d = all_head (nullable_in (derives_yields g d Symbols.none).1 refl)

    module _ (terminals : (a : ℕ) → 0 < a → a < g.terminals → s a) where
      productive_in : {β p w : List ℕ} → Yields g β p w → All s β
      productive_in nil = none
      productive_in (terminal h k y) = more (terminals _ h k) (productive_in y)
      productive_in (nonterminal r h x y) = more (closed r h (productive_in x)) (productive_in y)

      pub productive_least : {x : ℕ} → Productive g x → s x
      productive_least t = all_head (productive_in (derives_yields g t.derived t.terminals).1)

  module _ (s : ℕ → Type 0) (closed : (r : ℕ) → r < g.productions → s (g.left r) → All s (g.right r)) where
    derived_in : {a b : List ℕ} → Derives g a b → All s a → All s b
    derived_in Derives.stop i = i
    derived_in (Derives.step u v r h e d) i =
        let p = all_parts u (rw e at i) in
        derived_in d (all_join p.0 (all_join (closed r h (all_head p.1)) (all_tail p.1)))

    pub reachable_least : s g.terminals → {x : ℕ} → Reachable g x → s x
    reachable_least i t = all_head (all_parts t.front (derived_in t.derived (more i none))).1

  -- two answers of refusal 10 are one
  pub one_lowest : {a b : ℕ} → LowestUseless g a → LowestUseless g b → a ≡ b
  one_lowest {a} {b} l m = omega (arith, half l m, half m l)
    where
      half : {a b : ℕ} → LowestUseless g a → LowestUseless g b → a ≤ b
      half {a} {b} l m = ⊎_elim (λ (h : b < a). absurd (m.here (omega (arith, l.to)) (l.before b m.from h))) (λ (h : a ≤ b). h) (lt_or_ge b a)
