-- A closed set of items holds every item of the theory. And every numbered state is reached.
use Prim.Native.Nat.{ℕ, suc, zero, ◌<◌}
use mathlib.Core.Path.{◌≡◌, sym}
use mathlib.Core.Logic.{◌≢◌}
use mathlib.Core.List.{List, [], ◌∷◌, ◌++◌}
use lib.ListN.{drop}
use native.Mathlib.Omega.{arith}
use native.Mathlib.Decide.{ℕ_discrete}
use Rattle.grammar.specs.Grammar.{Grammar, Formed}
use Rattle.lr.proofs.Canonical.{Canonical, start_viable}
use Rattle.lr.specs.Sets
use Rattle.lr.proofs.ItemLaws.{AllProductive}
use Rattle.lr.proofs.Automaton.{Automaton, walk, walk_snoc}
use Rattle.lr.proofs.RelationLaws.{Reached, went, after_viable}

-- a set of LR(1) items by states that is closed holds every item of the theory
pub record Closed1 (g : Grammar) (next : ℕ → ℕ → ℕ) (s : ℕ → ℕ → ℕ → ℕ → Type 0) : Type 0 where
  pub start : s 0 g.productions 0 0
  pub close : {q r d a t b : ℕ} {β : List ℕ} → s q r d a → drop d (g.right r) ≡ g.left t ∷ β → t < g.productions → Sets.First g β a b → s q t 0 b
  pub goto : {q r d a x : ℕ} {β : List ℕ} → s q r d a → drop d (g.right r) ≡ x ∷ β → s (next q x) r (suc d) a

pub items_in : (g : Grammar) (next : ℕ → ℕ → ℕ) (s : ℕ → ℕ → ℕ → ℕ → Type 0) → Closed1 g next s → {γ : List ℕ} {r d a : ℕ} → Canonical g γ r d a → s (walk next 0 γ) r d a
items_in g next s c Canonical.start = c.start
items_in g next s c (Canonical.close i e h fi) = c.close (items_in g next s c i) e h fi
items_in g next s c (Canonical.goto i e) = rw walk_snoc (c.goto (items_in g next s c i) e)

module _ (g : Grammar) (f : Formed g) (pr : AllProductive g) (count : ℕ) (has : ℕ → ℕ → ℕ → Type 0) (next : ℕ → ℕ → ℕ) (au : Automaton g count has next)
    (entered : (q : ℕ) → q < count → q ≢ 0 → (q' : ℕ) × (x : ℕ) × (q' < q) × (next q' x ≡ q)) where
  step : {q q' x : ℕ} → next q' x ≡ q → q ≢ 0 → Reached g next q' → Reached g next q
  step {q} {q'} {x} e ne t =
      let nz : next (walk next 0 t.path) x ≢ 0 = rw (t.leads, e) ne in
      record { path = t.path ++ x ∷ []; viable = after_viable g f pr count has next au (went g f pr count has next au t.viable nz); leads = rw (walk_snoc, t.leads, e) }

  pub all_reached : (n q : ℕ) → q < n → q < count → Reached g next q
  all_reached zero q h k = absurd (omega arith)
  all_reached (suc n) q h k = go (ℕ_discrete q 0) (λ q' h k. all_reached n q' h k)
    where
      go : Dec (q ≡ 0) → ((q' : ℕ) → q' < n → q' < count → Reached g next q') → Reached g next q
      go (yes e) ih = record { path = []; viable = start_viable g; leads = sym e }
      go (no ne) ih = let t = entered q k ne in step t.3 ne (ih t.0 (omega arith) (omega arith))
