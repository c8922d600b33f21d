-- The machine over an LALR(1) table without conflict: it accepts just the sentences, by their one rightmost derivation, and stops at the first wrong terminal.
use Prim.Native.Nat.{ℕ, suc, ◌+◌, ◌<◌}
use mathlib.Core.Path.{◌≡◌, refl, ap, sym, ◌∙◌}
use mathlib.Core.List.{List, [], ◌∷◌, ◌++◌, append_assoc, append-nil, append_cancel_right, reverse, reverse-reverse}
use lib.ListN.{length, drop, take}
use lib.Seq.{take-length}
use native.Mathlib.Omega.{arith}
use native.Mathlib.Nat.{zero-add, add-zero}
use Rattle.grammar.specs.Grammar.{Grammar, Symbols, none, more, Formed, Sentence, Rightmost}
use Rattle.grammar.proofs.Yield.{Yields, nil, terminal, nonterminal, append, fold_last, symbols_back}
use Rattle.lr.proofs.Runs
use Rattle.lr.proofs.Canonical.{Canonical, in_core, by_path, start_viable}
use Rattle.lr.specs.Sets
use Rattle.lr.specs.Items
use Rattle.lr.proofs.Firsts.{first_begins, first_follows}
use Rattle.sets.specs.Lists.{peek}
use Rattle.lr.proofs.Runs.{Act, shift, reduce, accept, wrong}
use Rattle.lr.proofs.ItemLaws.{drop_next, Origin, added, inner, origin, Extends, AllProductive, begins}
use Rattle.lr.proofs.Automaton.{merged_self, merged_item}
use Rattle.grammar.proofs.Derive.{derives_yields, rightmost_yields, yields_rightmost, rightmost_derives}

-- no step follows this action
abbrev pub Ending : Act → Type 0
Ending wrong = Unit {0}
Ending accept = Unit {0}
Ending shift = ⊥
Ending (reduce r) = ⊥

pub clash : {a : Act} {r : ℕ} → a ≡ shift → a ≡ reduce r → ⊥
clash p q = let z : ◌≡◌ {A = ℕ} 0 1 = cc in omega arith

module _ (g : Grammar) where
  pub record Accepted (w p : List ℕ) : Type 0 where
    pub sentence : Sentence g w
    pub derivation : Rightmost g (g.terminals ∷ []) (reverse p) w
    pub only : (q : List ℕ) → Rightmost g (g.terminals ∷ []) q w → q ≡ reverse p

  -- A run that finds a wrong cell before the rest x of the input: what stands before x begins a sentence, and no sentence goes on with x's first terminal,
  -- or ends there where x is empty.
  pub data Stopped (x : List ℕ) : List ℕ → Type 0 where
    stopped : (u : List ℕ) → Extends g u → ((z : List ℕ) → peek z ≡ peek x → Sentence g (u ++ z) → ⊥) → Stopped x (u ++ x)

module _ (g : Grammar) (f : Formed g) (act : List ℕ → ℕ → Act) (tab : Runs.Table g act) where
  pub after_viable : {γ : List ℕ} {x : ℕ} → Runs.After g γ x → Items.Viable g (γ ++ x ∷ [])
  after_viable (Runs.dot_before (Items.with_lookahead _ i) e) = Items.by_item (in_core (Canonical.goto (by_path i) e))

  -- a reduction finds its right side on the stack, and below it a state that goes on with its left side
  pub data Reducible (r : ℕ) : List ℕ → Type 0 where
    reducible : (α : List ℕ) → r < g.productions → Runs.After g α (g.left r) → Reducible r (α ++ g.right r)

  pub reduction : {γ : List ℕ} {m r : ℕ} → Items.Viable g γ → act γ m ≡ reduce r → Reducible r γ
  reduction {γ} {m} {r} v e = let h = tab.reduce_from v e in go h.0 (merged_item g h.1)
    where
      go₂ : {δ : List ℕ} → r < g.productions → Origin g r (length (g.right r)) δ → Reducible r δ
      go₂ h (added e) = absurd (omega arith)
      go₂ h (inner α h' k i) = rw take-length (reducible α h k)

      go : r < g.productions → Items.Item g γ r (length (g.right r)) → Reducible r γ
      go h (Items.with_lookahead _ i) = go₂ h (origin g (by_path i))

  popped : {r : ℕ} {γ : List ℕ} (α : List ℕ) → Reducible r γ → γ ≡ α ++ g.right r → (r < g.productions) × Items.Viable g (α ++ g.left r ∷ [])
  popped {r} α (reducible α' h k) e = (h, rw (append_cancel_right α' α (g.right r) e) at (after_viable k))

  -- determinism, up to an end
  pub same_end : {γ x p q γ₁ x₁ γ₂ x₂ : List ℕ}
      → Runs.Run g act γ x p γ₁ x₁ → Ending (act γ₁ (peek x₁)) → Runs.Run g act γ x q γ₂ x₂ → Ending (act γ₂ (peek x₂)) → (p ≡ q) × (γ₁ ≡ γ₂) × (x₁ ≡ x₂)
  same_end Runs.stop h Runs.stop k = (refl, refl, refl)
  same_end Runs.stop h (Runs.shifted e s) k = absurd (rw e at h)
  same_end Runs.stop h (Runs.reduced α r e e' s) k = absurd (rw e at h)
  same_end (Runs.shifted e s) h Runs.stop k = absurd (rw e at k)
  same_end (Runs.shifted e s) h (Runs.shifted e' s') k = same_end s h s' k
  same_end (Runs.shifted e s) h (Runs.reduced α r e₁ e₂ s₁) k = absurd (clash e e₁)
  same_end (Runs.reduced α r e₁ e₂ s) h Runs.stop k = absurd (rw e₁ at k)
  same_end (Runs.reduced α r e₁ e₂ s) h (Runs.shifted e s₁) k = absurd (clash e e₁)
  same_end (Runs.reduced α r e₁ e₂ s) h (Runs.reduced α' r' e₁' e₂' s') k =
      let er : r ≡ r' = cc in
      let eα : α ≡ α' = append_cancel_right α α' (g.right r) (cc) in
      let t = same_end s h (rw (← eα, ← er) at s') k in
      (cc, t.1, t.2)

  -- a run reads a front part u of its input, and goes the same way where another input follows u with the same next terminal
  pub data Used (γ p γ' x' : List ℕ) : List ℕ → Type 0 where
    used : (u : List ℕ) → ((y : List ℕ) → peek y ≡ peek x' → Runs.Run g act γ (u ++ y) p γ' y) → Used γ p γ' x' (u ++ x')

  peek_same : (u x y : List ℕ) → peek y ≡ peek x → peek (u ++ y) ≡ peek (u ++ x)
  peek_same [] x y e = e
  peek_same (a ∷ u) x y e = refl

  used_shift : {γ p γ' x' x : List ℕ} {m : ℕ} → act γ m ≡ shift → Used (γ ++ m ∷ []) p γ' x' x → Used γ p γ' x' (m ∷ x)
  used_shift {m} e (used u k) = used (m ∷ u) (λ y h. Runs.shifted e (k y h))

  used_reduce : {γ p γ' x' x : List ℕ} (α : List ℕ) (r : ℕ) → act γ (peek x) ≡ reduce r → γ ≡ α ++ g.right r → Used (α ++ g.left r ∷ []) p γ' x' x → Used γ (r ∷ p) γ' x' x
  used_reduce {γ} {x'} α r e₁ e₂ (used u k) = used u (λ y h. Runs.reduced α r (ap (act γ) (peek_same u x' y h) ∙ e₁) e₂ (k y h))

  pub used_of : {γ x p γ' x' : List ℕ} → Runs.Run g act γ x p γ' x' → Used γ p γ' x' x
  used_of Runs.stop = used [] (λ y h. Runs.stop)
  used_of (Runs.shifted e s) = used_shift e (used_of s)
  used_of (Runs.reduced α r e₁ e₂ s) = used_reduce α r e₁ e₂ (used_of s)

  -- soundness: what is read is what the stack's symbols yield, by the productions listed
  pub data Read (p γ x : List ℕ) : List ℕ → Type 0 where
    read : {u : List ℕ} → Items.Viable g γ → Yields g γ p u → Read p γ x (u ++ x)

  pub sound : {γ x p γ' x' q u : List ℕ} → Runs.Run g act γ x p γ' x' → Symbols g.terminals x → Items.Viable g γ → Yields g γ q u → Read (q ++ p) γ' x' (u ++ x)
  sound Runs.stop m v y = rw append-nil (read v y)
  sound (Runs.shifted e s) (more h k m) v y = simp (append-nil, append_assoc) at (sound s m (after_viable (tab.shift_from v e).1) (append g y (terminal h k nil)))
  sound (Runs.reduced α r e₁ e₂ s) m v y =
      let t = popped α (reduction v e₁) e₂ in
      simp append_assoc at (sound s m t.1 (fold_last g α r t.0 (rw e₂ at y)))

  -- completeness
  first_of_is : {β p : List ℕ} {a : ℕ} (v : List ℕ) → Yields g β p v → (y : List ℕ) → peek y ≡ a → Sets.First g β a (peek (v ++ y))
  first_of_is [] z y e = first_follows g z e
  first_of_is (b ∷ v) z y e = first_begins g z

  pub run_append : {γ x p γ₁ x₁ q γ₂ x₂ : List ℕ} → Runs.Run g act γ x p γ₁ x₁ → Runs.Run g act γ₁ x₁ q γ₂ x₂ → Runs.Run g act γ x (p ++ q) γ₂ x₂
  run_append Runs.stop t = t
  run_append (Runs.shifted e s) t = Runs.shifted e (run_append s t)
  run_append (Runs.reduced α r e₁ e₂ s) t = Runs.reduced α r e₁ e₂ (run_append s t)

  -- from an item, over what the symbols behind its dot yield
  over : {β p w : List ℕ} → Yields g β p w → {γ : List ℕ} {r d a : ℕ} → Canonical g γ r d a → drop d (g.right r) ≡ β → (y : List ℕ) → peek y ≡ a
      → Runs.Run g act γ (w ++ y) p (γ ++ β) y × Canonical g (γ ++ β) r (d + length β) a
  over nil i e y l = (rw append-nil Runs.stop, rw (append-nil, add-zero) i)
  over (terminal {a = m} {α} {p} {w} h k z) {γ} {r} {d} {a} i e y l =
      let t = over z (Canonical.goto i e) (drop_next d (g.right r) e) y l in
      let n : suc d + length α ≡ d + suc (length α) = omega arith in (
        Runs.shifted (tab.shifts (Runs.dot_before (in_core i) e) k) (rw append_assoc at t.0),
        rw (append_assoc, n) at t.1,
      )
  over (nonterminal {α} {p} {u} {q} {v} s h x z) {γ} {r} {d} {a} i e y l =
      let t = over x (Canonical.close i e h (first_of_is v z y l)) refl (v ++ y) refl in
      let t' = over z (Canonical.goto i e) (drop_next d (g.right r) e) y l in
      let c = tab.reduces h (merged_self g (rw zero-add at t.1)) in
      let n : suc d + length α ≡ d + suc (length α) = omega arith in (
        rw append_assoc (run_append t.0 (Runs.reduced γ s c refl (rw append_assoc at t'.0))),
        rw (append_assoc, n) at t'.1,
      )

  pub complete : {p w : List ℕ} → Yields g (g.terminals ∷ []) p w → Runs.Run g act [] w p (g.terminals ∷ []) [] × (act (g.terminals ∷ []) 0 ≡ accept)
  complete y = let t = over y Canonical.start f.added [] refl in (rw append-nil at t.0, tab.accepts (merged_self g t.1))

  -- the accepting stack is the start alone
  accepted_stack : {γ : List ℕ} → Items.Item g γ g.productions 1 → γ ≡ g.terminals ∷ []
  accepted_stack (Items.with_lookahead _ i) = go (origin g (by_path i))
    where
      go : {δ : List ℕ} → Origin g g.productions 1 δ → δ ≡ g.terminals ∷ []
      go (added e) = ap (λ (l : List ℕ). take 1 l) f.added
      go (inner α h k j) = absurd (omega arith)

  none_left : {x : List ℕ} → Symbols g.terminals x → peek x ≡ 0 → x ≡ []
  none_left none e = refl
  none_left (more h k m) e = absurd (omega arith)

  -- A run that accepts.
  pub runs_same : {w p q : List ℕ} → Yields g (g.terminals ∷ []) p w → Yields g (g.terminals ∷ []) q w → p ≡ q
  runs_same y z =
      let s = complete y in
      let t = complete z in
      (same_end s.0 (rw s.1 tt) t.0 (rw t.1 tt)).0

  pub accepted : {w p γ x : List ℕ} → Symbols g.terminals w → Runs.Run g act [] w p γ x → act γ (peek x) ≡ accept → Accepted g w p
  accepted {w} {p} {γ} {x} m s e = go m (sound s m (start_viable g) nil)
    where
      whole : {u : List ℕ} → Symbols g.terminals (u ++ x) → Items.Viable g γ → Yields g γ p u → Accepted g (u ++ x) p
      whole {u} n v y =
          let a = tab.accept_from v e in
          let eγ = accepted_stack (merged_item g a.1) in
          let ex = none_left (symbols_back u n) a.0 in
          let y' : Yields g (g.terminals ∷ []) p (u ++ x) = rw (ex, append-nil) (rw eγ at y) in
          let d : Rightmost g (g.terminals ∷ []) (reverse p) (u ++ x) = simp append-nil at (yields_rightmost g [] [] none y') in
          record {
            sentence = record { terminals = n; derived = rightmost_derives g d };
            derivation = d;
            only = λ q r. sym (reverse-reverse q) ∙ ap reverse (runs_same (rightmost_yields g f r n) y');
          }

      go : {w' : List ℕ} → Symbols g.terminals w' → Read p γ x w' → Accepted g w' p
      go n (read v y) = whole n v y

  module _ (pr : AllProductive g) where
    pub refused : {w p γ x : List ℕ} → Symbols g.terminals w → Runs.Run g act [] w p γ x → act γ (peek x) ≡ wrong → Stopped g x w
    refused {w} {p} {γ} {x} m s e = go (used_of s) (sound s m (start_viable g) nil)
      where
        never : (u : List ℕ) → ((y : List ℕ) → peek y ≡ peek x → Runs.Run g act [] (u ++ y) p γ y) → (z : List ℕ) → peek z ≡ peek x → Sentence g (u ++ z) → ⊥
        never u k z l n =
            let t = complete (derives_yields g n.derived n.terminals).1 in
            let e' : act γ (peek z) ≡ wrong = ap (act γ) l ∙ e in
            let same = same_end t.0 (rw t.1 tt) (k z l) (rw e' tt) in
            let bad : ◌≡◌ {A = Act} accept wrong = sym t.1 ∙ ap (λ (δ : List ℕ). act δ 0) same.1 ∙ ap (λ (y : List ℕ). act γ (peek y)) same.2 ∙ e' in
            let zero_one : ◌≡◌ {A = ℕ} 0 1 = cc in
            omega arith

        front : {w' : List ℕ} (u : List ℕ) → Read p γ x w' → w' ≡ u ++ x → Extends g u
        front u (read {u = u'} (Items.by_item (Items.with_lookahead _ i)) y) h = rw (append_cancel_right u' u x h) at (begins g f pr (by_path i) y)

        go : {w' : List ℕ} → Used [] p γ x w' → Read p γ x w' → Stopped g x w'
        go (used u k) r = stopped u (front u r refl) (never u k)
