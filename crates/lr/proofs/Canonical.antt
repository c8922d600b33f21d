-- The items of the canonical sets by how they come in: at the start, by CLOSURE, by GOTO. A form for proofs; the definition is specs/Sets.antt, and `canonical_sets` says that both have the same items.
use Prim.Native.Nat.{ℕ, suc, ◌<◌}
use mathlib.Core.Path.{◌≡◌, refl, sym, subst}
use mathlib.Core.Logic.{◌↔◌}
use mathlib.Core.List.{List, [], ◌∷◌, ◌++◌, append_assoc, append-nil}
use lib.ListN.{drop}
use Rattle.grammar.specs.Grammar.{Grammar}
use Rattle.lr.specs.Sets.{ItemSet, First, Closure, given, opened, Advanced, advanced, Goto, FirstItem, first_item, SetFrom, SetOf}
use Rattle.lr.specs.Items.{Item, with_lookahead, Viable, by_item}

module _ (g : Grammar) where
  pub data Canonical : List ℕ → ℕ → ℕ → ℕ → Type 0 where
    start : Canonical [] g.productions 0 0
    close : {γ β : List ℕ} {r d a s b : ℕ} → Canonical γ r d a → drop d (g.right r) ≡ g.left s ∷ β → s < g.productions → First g β a b → Canonical γ s 0 b
    goto : {γ β : List ℕ} {r d a x : ℕ} → Canonical γ r d a → drop d (g.right r) ≡ x ∷ β → Canonical (γ ++ x ∷ []) r (suc d) a

  -- the set behind one symbol more
  set_snoc : (I : ItemSet) (γ : List ℕ) (x : ℕ) → SetFrom g I (γ ++ x ∷ []) ≡ Goto g (SetFrom g I γ) x
  set_snoc I [] x = refl
  set_snoc I (y ∷ γ) x = set_snoc (Goto g I y) γ x

  -- a set that CLOSURE's second rule leaves alone
  pub record Closed (I : ItemSet) : Type 0 where
    pub add : {r d a s b : ℕ} {β : List ℕ} → I r d a → drop d (g.right r) ≡ g.left s ∷ β → s < g.productions → First g β a b → I s 0 b

  -- CLOSURE(I) is such a set, and the least one with the items of I
  closure_closed : (I : ItemSet) → Closed (Closure g I)
  closure_closed I = record { add = λ c e h f. opened c e h f }

  closure_least : {I J : ItemSet} → ((r d a : ℕ) → I r d a → J r d a) → Closed J → {r d a : ℕ} → Closure g I r d a → J r d a
  closure_least k c (given i) = k _ _ _ i
  closure_least k c (opened i e h f) = c.add (closure_least k c i) e h f

  set_closed : (I : ItemSet) (γ : List ℕ) → Closed I → Closed (SetFrom g I γ)
  set_closed I [] c = c
  set_closed I (x ∷ γ) c = set_closed (Goto g I x) γ (closure_closed (Advanced g I x))

  to_set : {γ : List ℕ} {r d a : ℕ} → Canonical γ r d a → SetOf g γ r d a
  unfolding SetOf
  to_set start = given first_item
  to_set (close {γ} i e h f) = (set_closed (Closure g (FirstItem g)) γ (closure_closed (FirstItem g))).add (to_set i) e h f
  to_set (goto {γ} {r = r} {d = d} {a = a} {x = x} i e) =
      subst (λ (I : ItemSet). I r (suc d) a) (sym (set_snoc (Closure g (FirstItem g)) γ x)) (given (advanced (to_set i) e))

  path_closed : (γ : List ℕ) → Closed (Canonical γ)
  path_closed γ = record { add = λ i e h f. close i e h f }

  from_set : (I : ItemSet) (δ γ : List ℕ) → ((r d a : ℕ) → I r d a → Canonical δ r d a) → {r d a : ℕ} → SetFrom g I γ r d a → Canonical (δ ++ γ) r d a
  from_set I δ [] k s = rw append-nil (k _ _ _ s)
  from_set I δ (x ∷ γ) k {r} {d} {a} s =
      let t : Canonical ((δ ++ x ∷ []) ++ γ) r d a = from_set (Goto g I x) (δ ++ x ∷ []) γ (λ r d a c. closure_least next (path_closed (δ ++ x ∷ [])) c) s in
      rw append_assoc at t
    where
      next : (r d a : ℕ) → Advanced g I x r d a → Canonical (δ ++ x ∷ []) r d a
      next r d a (advanced i e) = goto (k _ _ _ i) e

  pub canonical_sets : (γ : List ℕ) (r d a : ℕ) → Canonical γ r d a ↔ SetOf g γ r d a
  unfolding SetOf
  canonical_sets γ r d a = (λ i. to_set i, λ s. from_set (Closure g (FirstItem g)) [] γ (λ r d a c. closure_least first (path_closed []) c) s)
    where
      first : (r d a : ℕ) → FirstItem g r d a → Canonical [] r d a
      first r d a first_item = start

-- from one form to the other
pub in_set : {g : Grammar} {γ : List ℕ} {r d a : ℕ} → Canonical g γ r d a → SetOf g γ r d a
in_set {g} {γ} {r} {d} {a} i = (canonical_sets g γ r d a).0 i

pub by_path : {g : Grammar} {γ : List ℕ} {r d a : ℕ} → SetOf g γ r d a → Canonical g γ r d a
by_path {g} {γ} {r} {d} {a} i = (canonical_sets g γ r d a).1 i

pub in_core : {g : Grammar} {γ : List ℕ} {r d a : ℕ} → Canonical g γ r d a → Item g γ r d
in_core {a = a} i = with_lookahead a (in_set i)

pub start_viable : (g : Grammar) → Viable g []
start_viable g = by_item (in_core start)
