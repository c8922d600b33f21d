-- An automaton whose states are numbered in the paper's order is the numbered states of the definition.
use mathlib.Core.List.{List, [], ◌∷◌, ◌++◌}
use mathlib.Core.Logic.{◌≢◌}
use mathlib.Core.Path.{◌≡◌, refl, sym, ap, ◌∙◌}
use Prim.Native.Nat.{ℕ, zero, suc, ◌+◌, ◌<◌}
use native.Mathlib.Decide.{ℕ_discrete}
use native.Mathlib.Omega.{arith}
use Rattle.grammar.specs.Grammar.{Grammar, Formed}
use Rattle.lr.proofs.ItemLaws.{AllProductive}
use Rattle.sets.specs.Bit.{count}
use Rattle.lr.proofs.Canonical.{by_path, start_viable}
use Rattle.lr.specs.Items
use Rattle.lr.specs.States.{Taken, row_of as cells_of, States}
use Rattle.lr.proofs.Automaton.{Automaton, CoreClosure, given, opened, CoreAdvanced, advanced, goes, walk, walk_snoc, has_of, same_state, same_core, viable_below}
use Rattle.lr.proofs.RelationLaws.{went, after_viable}
use Rattle.lr.proofs.Paths.{items_behind}
use Rattle.lr.proofs.Unique.{first_of_is}

module _ (g : Grammar) (f : Formed g) (pr : AllProductive g) (count : ℕ) (has : ℕ → ℕ → ℕ → Type 0) (next : ℕ → ℕ → ℕ) (au : Automaton g count has next) (order : Taken (cells_of g next) count count) where
  -- a path to a state
  record Path (q : ℕ) : Type 0 where
    path : List ℕ
    viable : Items.Viable g path
    leads : walk next 0 path ≡ q

  path_next : (q p x : ℕ) → Path q → next q x ≡ p → (p ≡ 0 → ⊥) → Path p
  path_next q p x t e n =
      record {
        path = t.path ++ x ∷ [];
        viable = after_viable g f pr count has next au (went g f pr count has next au t.viable (λ z. n (sym e ∙ ap (λ (k : ℕ). next k x) (sym t.leads) ∙ z)));
        leads = walk_snoc next 0 t.path x ∙ ap (λ (k : ℕ). next k x) t.leads ∙ e;
      }

  path_to : (n q : ℕ) → q < n → q < count → Path q
  path_to zero q h k = absurd (omega arith)
  path_to (suc n) q h k = go (ℕ_discrete q 0) (λ p l. path_to n p (omega arith) (omega arith))
    where
      go : Dec (q ≡ 0) → ((p : ℕ) → p < q → Path p) → Path q
      go (yes e) ih = rw e (record { path = []; viable = start_viable g; leads = refl })
      go (no z) ih = let t = first_of_is g next order q (omega arith) k in path_next t.from q t.on (ih t.from t.lower) t.is z

  viable_moves : (γ : List ℕ) (x : ℕ) → Items.Viable g (γ ++ x ∷ []) → next (walk next 0 γ) x ≢ 0
  viable_moves γ x (Items.by_item (Items.with_lookahead _ i)) = go (items_behind g f pr (by_path i) refl)
    where
      go : {r d : ℕ} → CoreClosure g (CoreAdvanced g (Items.Item g γ) x) r d → next (walk next 0 γ) x ≢ 0
      go (given (advanced (Items.with_lookahead _ j) e)) = let t = has_of g f pr count has next au (by_path j) in (au.next_some t.0).1 (goes t.1 e)
      go (opened c e h) = go c

  pub ordered_states : States g count next
  ordered_states =
      record {
        below = λ v. viable_below g f pr count has next au v;
        every = λ q h. let t = path_to (suc q) q (omega arith) h in (t.path, t.viable, t.leads);
        merged = λ v v'. (λ e. same_core g f pr count has next au v v' e, λ s. same_state g f pr count has next au v v' s);
        moved = λ {γ} v x. (λ nz. after_viable g f pr count has next au (went g f pr count has next au v nz), λ w. viable_moves γ x w);
        order = order;
      }
