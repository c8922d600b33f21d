-- The numbered states depend on the transitions of the states below their count alone; what the table area holds behind them does not matter.
use Prim.Native.Nat.{ℕ, ◌+◌, ◌≤◌, ◌<◌}
use mathlib.Core.Path.{◌≡◌, refl, sym, ap, ◌∙◌}
use mathlib.Core.Logic.{◌≢◌}
use mathlib.Core.List.{List, [], ◌∷◌}
use native.Mathlib.Omega.{arith}
use native.Mathlib.Decide.{dec_lt}
use borrow.Author.Tests.{le-ltb}
use Rattle.sets.proofs.ListLaws.{each_same}
use Rattle.grammar.specs.Grammar.{Grammar}
use Rattle.lr.proofs.Canonical.{Canonical, in_core, by_path}
use Rattle.lr.specs.Items
use Rattle.lr.specs.Items.{walk}
use Rattle.lr.specs.States.{Taken, row_of, States}
use Rattle.lr.proofs.Automaton.{walk_snoc}
use Rattle.transitions.specs.Next.{next_of}

module _ (g : Grammar) (n : ℕ) (next next' : ℕ → ℕ → ℕ) (same : (q x : ℕ) → q < n → next q x ≡ next' q x) (st : States g n next) where
  walk_item : {γ : List ℕ} {r d a : ℕ} → Canonical g γ r d a → walk next' 0 γ ≡ walk next 0 γ
  walk_item Canonical.start = refl
  walk_item (Canonical.close i e h f) = walk_item i
  walk_item (Canonical.goto {γ} {x} i e) =
      walk_snoc next' 0 γ x ∙ ap (λ (q : ℕ). next' q x) (walk_item i) ∙ sym (same (walk next 0 γ) x (st.below (Items.by_item (in_core i)))) ∙ sym (walk_snoc next 0 γ x)

  walk_same : {γ : List ℕ} → Items.Viable g γ → walk next' 0 γ ≡ walk next 0 γ
  walk_same (Items.by_item (Items.with_lookahead _ i)) = walk_item (by_path i)

  taken_same : {q m : ℕ} → Taken (row_of g next) q m → q ≤ n → Taken (row_of g next') q m
  taken_same Taken.none h = Taken.none
  taken_same (Taken.one {q} t k gi) h =
      Taken.one (taken_same t (omega arith)) k
      (rw (each_same (g.terminals + g.nonterminals) (λ x. next q x ∷ []) (λ x. next' q x ∷ []) (λ x l. ap (λ (y : ℕ). y ∷ []) (same q x h))) at gi)

  moved_same : {γ : List ℕ} → Items.Viable g γ → (x : ℕ) → next' (walk next' 0 γ) x ≡ next (walk next 0 γ) x
  moved_same {γ} v x = ap (λ (q : ℕ). next' q x) (walk_same v) ∙ sym (same (walk next 0 γ) x (st.below v))

  pub states_same : States g n next'
  states_same = record {
    below = λ v. rw (walk_same v) (st.below v);
    every = λ q h. (let t = st.every q h in (t.0, t.1, walk_same t.1 ∙ t.2));
    merged = λ v v'. rw (walk_same v, walk_same v') (st.merged v v');
    moved = λ v x. rw (moved_same v x) (st.moved v x);
    order = taken_same st.order (omega arith);
  }

-- in the table area only the n states have transitions
pub next_inside : (c t : List ℕ) (n q x : ℕ) → next_of c t n q x ≢ 0 → q < n
unfolding next_of
next_inside c t n q x nz = go (dec_lt q n) nz
  where
    go : Dec (q < n) → next_of c t n q x ≢ 0 → q < n
    go (yes l) nz = l
    go (no l) nz = absurd (nz (rw (le-ltb q n (omega arith), next_of)))
