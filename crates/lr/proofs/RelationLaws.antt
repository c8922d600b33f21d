-- The relations of DeRemer and Pennello give the lookaheads of the merged LR(1) states.
use Prim.Native.Nat.{ℕ, suc, zero, ◌+◌, ◌<◌}
use mathlib.Core.Path.{◌≡◌, refl, ap, sym, ◌∙◌}
use mathlib.Core.Logic.{◌≢◌}
use mathlib.Core.List.{List, [], ◌∷◌, ◌++◌, append_assoc, append-nil}
use lib.ListN.{length, drop, take, take-append-drop}
use lib.Seq.{take-length}
use native.Mathlib.Omega.{arith}
use native.Mathlib.Nat.{zero-add, add-zero}
use Rattle.grammar.specs.Grammar.{Grammar, Formed}
use Rattle.grammar.proofs.Yield.{Yields, nil, terminal, nonterminal, append}
use Rattle.lr.proofs.Runs
use Rattle.lr.proofs.Canonical.{Canonical, in_core, by_path}
use Rattle.lr.specs.Sets
use Rattle.lr.specs.Items
use Rattle.lr.proofs.Firsts.{FirstYields, yields, empty, first_yields, first_begins, first_follows}
use Rattle.lr.proofs.ItemLaws.{AllProductive, all_made, after_symbols, drop_next, take_next, snoc_last, not_snoc}
use Rattle.lr.proofs.Automaton.{Automaton, Goes, goes, Lookahead, walk, walk_snoc, walk_append, has_of, item_of, sits_lookahead, lookahead_sits}

module _ (g : Grammar) (next : ℕ → ℕ → ℕ) where
  -- the terminals read next from a state, behind nullable nonterminals
  pub data ReadFrom : ℕ → ℕ → Type 0 where
    direct : {q b : ℕ} → 0 < b → b < g.terminals → next q b ≢ 0 → ReadFrom q b
    through : {q x b : ℕ} {p : List ℕ} → Yields g (x ∷ []) p [] → next q x ≢ 0 → ReadFrom (next q x) b → ReadFrom q b

  -- what follows a transition (p, x): what is read from the state that it enters, and what follows the transitions that it includes
  pub data FollowOf : ℕ → ℕ → ℕ → Type 0 where
    ends : FollowOf 0 g.terminals 0
    reads : {p x b : ℕ} → next p x ≢ 0 → ReadFrom (next p x) b → FollowOf p x b
    includes : {p p' x b s : ℕ} {q : List ℕ} (β₁ β₂ : List ℕ) → s < g.productions → g.right s ≡ β₁ ++ x ∷ β₂ → Yields g β₂ q [] → walk next p' β₁ ≡ p → next p' (g.left s) ≢ 0 → FollowOf p' (g.left s) b → FollowOf p x b

  -- some path leads to the state
  pub record Reached (q : ℕ) : Type 0 where
    pub path : List ℕ
    pub viable : Items.Viable g path
    pub leads : walk next 0 path ≡ q

  -- the look-ahead set of a production in a state
  pub record LAOf (q s b : ℕ) : Type 0 where
    pub from : ℕ
    pub move : next from (g.left s) ≢ 0
    pub leads : walk next from (g.right s) ≡ q
    pub follows : FollowOf from (g.left s) b

not_cons : {b : ℕ} {w : List ℕ} → ◌≡◌ {A = List ℕ} [] (b ∷ w) → ⊥
not_cons e = let z : ◌≡◌ {A = ℕ} 0 1 = cc in omega arith

module _ (g : Grammar) (f : Formed g) (pr : AllProductive g) (count : ℕ) (has : ℕ → ℕ → ℕ → Type 0) (next : ℕ → ℕ → ℕ) (au : Automaton g count has next) where
  transitions : {γ β : List ℕ} {r d a x : ℕ} → Canonical g γ r d a → drop d (g.right r) ≡ x ∷ β → next (walk next 0 γ) x ≢ 0
  transitions i e = let t = has_of g f pr count has next au i in (au.next_some t.0).1 (goes t.1 e)

  first_of_is : {β p : List ℕ} {a : ℕ} (v : List ℕ) → Yields g β p v → (b : ℕ) × Sets.First g β a b
  first_of_is [] z = (_, first_follows g z refl)
  first_of_is (b ∷ v) z = (b, first_begins g z)

  -- what the symbols behind an item's dot begin with is read from its state
  pub reads_of : {β p v γ : List ℕ} {r d a b : ℕ} {w : List ℕ} → Yields g β p v → v ≡ b ∷ w → Canonical g γ r d a → drop d (g.right r) ≡ β → ReadFrom g next (walk next 0 γ) b
  reads_of nil ev i e = absurd (not_cons ev)
  reads_of {b} (terminal {a = m} h k y) ev i e = let eb : m ≡ b = cc in rw (← eb) (direct h k (transitions i e))
  reads_of {r} {d} (nonterminal {u = []} s h x z) ev i e = through (nonterminal s h x nil) (transitions i e) (rw walk_snoc at (reads_of z ev (Canonical.goto i e) (drop_next d (g.right r) e)))
  reads_of {a} {b} (nonterminal {u = c ∷ u} {v = v} s h x z) ev i e =
      let t = first_of_is {a = a} v z in
      let eb : c ≡ b = cc in
      rw (← eb) (reads_of x refl (Canonical.close i e h t.1) refl)

  -- where an item has its lookahead from: FollowOf of its production's left side, in the state where the production begins
  pub data Source (r d a : ℕ) : List ℕ → Type 0 where
    added : r ≡ g.productions → a ≡ 0 → Source r d a (take d (g.right r))
    inner : (α : List ℕ) → r < g.productions → next (walk next 0 α) (g.left r) ≢ 0 → FollowOf g next (walk next 0 α) (g.left r) a → Source r d a (α ++ take d (g.right r))

  source_next : {r d a x : ℕ} {γ β : List ℕ} → drop d (g.right r) ≡ x ∷ β → Source r d a γ → Source r (suc d) a (γ ++ x ∷ [])
  source_next {r} {d} e (added h k) = rw (← take_next d (g.right r) e) (added h k)
  source_next {r} {d} e (inner α h k i) = rw (append_assoc, ← take_next d (g.right r) e) (inner α h k i)

  -- the added production has its dot before a nonterminal only at its start
  only_first : (d : ℕ) {x y : ℕ} {β : List ℕ} → drop d (y ∷ []) ≡ x ∷ β → (d ≡ 0) × (y ≡ x)
  only_first zero e = (refl, cc)
  only_first (suc zero) e = absurd (not_cons e)
  only_first (suc (suc d)) e = absurd (not_cons e)

  follow_behind : {r d a s : ℕ} {γ β q : List ℕ} → drop d (g.right r) ≡ g.left s ∷ β → Yields g β q [] → Source r d a γ → FollowOf g next (walk next 0 γ) (g.left s) a
  follow_behind {r} {d} {s = s} {β = β} e y (added er ea) =
      let right_is : g.right r ≡ g.terminals ∷ [] = ap g.right er ∙ f.added in
      let t = only_first d (rw right_is at e) in
      rw (ea, right_is, ← t.1, t.0) ends
  follow_behind {r} {d} {s = s} {β = β} e y (inner α h nz k) =
      includes (take d (g.right r)) β h (sym (take-append-drop d (g.right r)) ∙ ap (λ (l : List ℕ). take d (g.right r) ++ l) e) y (sym (walk_append next 0 α (take d (g.right r)))) nz k

  follow_close : {γ β : List ℕ} {r d a s b : ℕ} → Canonical g γ r d a → Source r d a γ → drop d (g.right r) ≡ g.left s ∷ β → s < g.productions → FirstYields g β a b → FollowOf g next (walk next 0 γ) (g.left s) b
  follow_close {r} {d} i o e h (yields y) = reads (transitions i e) (rw walk_snoc at (reads_of y refl (Canonical.goto i e) (drop_next d (g.right r) e)))
  follow_close i o e h (empty y eb) = rw eb (follow_behind e y o)

  pub source : {γ : List ℕ} {r d a : ℕ} → Canonical g γ r d a → Source r d a γ
  source Canonical.start = added refl refl
  source (Canonical.close {γ} {s} {b} i e h fi) =
      let o : Source s 0 b (γ ++ []) = inner γ h (transitions i e) (follow_close i (source i) e h (first_yields g fi)) in
      rw append-nil at o
  source (Canonical.goto i e) = source_next e (source i)

  pub lookahead_la : {q s b : ℕ} → s < g.productions → Lookahead g next q s b → LAOf g next q s b
  lookahead_la {q} {s} {b} h k = let t = lookahead_sits g f pr count has next au k in go (source t.item) t.leads
    where
      go : {γ : List ℕ} → Source s (length (g.right s)) b γ → walk next 0 γ ≡ q → LAOf g next q s b
      go (added e _) l = absurd (omega arith)
      go (inner α h nz fo) l = record { from = walk next 0 α; move = nz; leads = sym (walk_append next 0 α (g.right s)) ∙ rw take-length at l; follows = fo }

  -- The converse. `kern`: an item of γ with x behind its dot, behind which b can begin
  pub data Kern (γ : List ℕ) (x b : ℕ) : Type 0 where
    kern : {r d : ℕ} {β p w : List ℕ} → Items.Item g γ r d → drop d (g.right r) ≡ x ∷ β → Yields g β p (b ∷ w) → Kern γ x b

  kern_goto : {γ γ' β p w : List ℕ} {r d x x' b : ℕ} → γ ≡ γ' → x ≡ x' → Items.Item g γ r d → drop d (g.right r) ≡ x ∷ β → Yields g β p (b ∷ w) → Kern γ' x' b
  kern_goto eγ ex i e y = rw (← eγ, ← ex) (kern i e y)

  -- what stands behind the dot of an item of the state behind x is reached from a kernel item
  to_kernel : {δ γ p w : List ℕ} {r d a x b : ℕ} → Canonical g δ r d a → δ ≡ γ ++ x ∷ [] → Yields g (drop d (g.right r)) p (b ∷ w) → Kern γ x b
  to_kernel {γ} {x} Canonical.start eδ y = absurd (not_snoc γ x eδ)
  to_kernel {p} {w} (Canonical.close {s} i e h fi) eδ y =
      let m = all_made g f pr (after_symbols g f pr i e) in
      to_kernel {p = p ++ s ∷ m.0} {w = w ++ m.1} i eδ (rw e (nonterminal s h y m.2))
  to_kernel {γ} {x} (Canonical.goto {γ = γ'} {r = r} {d = d} {x = x'} i e) eδ y =
      let t = snoc_last γ' γ x' x eδ in
      kern_goto t.0 t.1 (in_core i) e (rw (drop_next d (g.right r) e) at y)

  item_kernel : {γ p w β : List ℕ} {r d x b : ℕ} → Items.Item g (γ ++ x ∷ []) r d → drop d (g.right r) ≡ β → Yields g β p (b ∷ w) → Kern γ x b
  item_kernel {p} {w} (Items.with_lookahead _ i) e y = to_kernel {p = p} {w = w} (by_path i) refl (rw e y)

  pub went : {γ : List ℕ} {x : ℕ} → Items.Viable g γ → next (walk next 0 γ) x ≢ 0 → Runs.After g γ x
  went {γ} {x} (Items.by_item (Items.with_lookahead _ i)) nz = let t = has_of g f pr count has next au (by_path i) in go ((au.next_some t.0).0 nz)
    where
      go : Goes g (has (walk next 0 γ)) x → Runs.After g γ x
      go (goes h e) = Runs.dot_before (item_of g f pr count has next au (by_path i) h) e

  pub after_viable : {γ : List ℕ} {x : ℕ} → Runs.After g γ x → Items.Viable g (γ ++ x ∷ [])
  after_viable (Runs.dot_before (Items.with_lookahead _ i) e) = Items.by_item (in_core (Canonical.goto (by_path i) e))

  pub reads_kernel : {q b : ℕ} → ReadFrom g next q b → (γ : List ℕ) (x : ℕ) → q ≡ walk next 0 (γ ++ x ∷ []) → Items.Viable g (γ ++ x ∷ []) → Kern γ x b
  reads_kernel {b} (direct h k nz) γ x e v = go (went v (rw e at nz))
    where
      go : Runs.After g (γ ++ x ∷ []) b → Kern γ x b
      go (Runs.dot_before (Items.with_lookahead _ i) e') = let m = all_made g f pr (after_symbols g f pr (by_path i) e') in item_kernel (Items.with_lookahead _ i) e' (terminal h k m.2)
  reads_kernel {b} (through {x = c} y nz r) γ x e v =
      let a = went v (rw e at nz) in
      go (reads_kernel r (γ ++ x ∷ []) c (rw e (sym (walk_snoc next 0 (γ ++ x ∷ []) c))) (after_viable a))
    where
      go : Kern (γ ++ x ∷ []) c b → Kern γ x b
      go (kern i e' z) = item_kernel i e' (append g y z)

  -- an item's dot goes over the symbols behind it
  pub goto_all : {γ : List ℕ} {r d a : ℕ} (β₁ β₂ : List ℕ) → Canonical g γ r d a → drop d (g.right r) ≡ β₁ ++ β₂ → Canonical g (γ ++ β₁) r (d + length β₁) a × (drop (d + length β₁) (g.right r) ≡ β₂)
  goto_all {γ} {r} {d} [] β₂ i e = (rw (append-nil, add-zero) i, rw add-zero e)
  goto_all {γ} {r} {d} (x ∷ β₁) β₂ i e =
      let t = goto_all β₁ β₂ (Canonical.goto i e) (drop_next d (g.right r) e) in
      let n : suc d + length β₁ ≡ d + suc (length β₁) = omega arith in
      (rw (append_assoc, n) at t.0, rw n at t.1)

  -- a lookahead that the closure gives to the productions of a nonterminal
  pub data Seen (q x b : ℕ) : Type 0 where
    seen : {γ β : List ℕ} {r d a : ℕ} → walk next 0 γ ≡ q → Canonical g γ r d a → drop d (g.right r) ≡ x ∷ β → Sets.First g β a b → Seen q x b

  module _ (reachable : (q x : ℕ) → next q x ≢ 0 → Reached g next q) where
    pub seen_of : {q x b : ℕ} → FollowOf g next q x b → Seen q x b
    seen_of ends = seen {γ = []} refl Canonical.start f.added (first_follows g nil refl)
    seen_of {x} (reads {p = q} nz r) =
        let t = reachable q x nz in
        let nz' : next (walk next 0 t.path) x ≢ 0 = rw t.leads nz in
        go t.leads (reads_kernel r t.path x (rw (walk_snoc, t.leads)) (after_viable (went t.viable nz')))
      where
        go : {γ : List ℕ} {b : ℕ} → walk next 0 γ ≡ q → Kern γ x b → Seen q x b
        go l (kern (Items.with_lookahead _ i) e y) = seen l (by_path i) e (first_begins g y)
    seen_of {q} {x} (includes {s = s} β₁ β₂ h e y l nz k) = go (seen_of k) l
      where
        go : {p b : ℕ} → Seen p (g.left s) b → walk next p β₁ ≡ q → Seen q x b
        go (seen {γ} l' i e' fi) l =
            let t = goto_all β₁ (x ∷ β₂) (Canonical.close i e' h fi) e in
            seen (walk_append next 0 γ β₁ ∙ ap (λ (p : ℕ). walk next p β₁) l' ∙ l) t.0 t.1 (first_follows g y refl)

    pub la_lookahead : {q s b : ℕ} → s < g.productions → LAOf g next q s b → Lookahead g next q s b
    la_lookahead {q} {s} {b} h k = go (seen_of k.follows) k.leads
      where
        go : {p : ℕ} → Seen p (g.left s) b → walk next p (g.right s) ≡ q → Lookahead g next q s b
        go (seen {γ} l i e fi) l' =
            let t = goto_all (g.right s) [] (Canonical.close i e h fi) (sym (append-nil (g.right s))) in
            sits_lookahead g (record { path = γ ++ g.right s; leads = walk_append next 0 γ (g.right s) ∙ ap (λ (p : ℕ). walk next p (g.right s)) l ∙ l'; item = rw zero-add at t.0 })
