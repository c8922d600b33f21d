-- Facts of items.
use Prim.Native.Nat.{ℕ, suc, zero, ◌+◌, ◌≤◌, ◌<◌}
use mathlib.Core.Path.{◌≡◌, refl, ap, sym, ◌∙◌}
use mathlib.Core.List.{List, [], ◌∷◌, ◌++◌, append_assoc, append-nil, reverse, reverse-append, reverse-reverse}
use lib.ListN.{drop, take, get_or}
use lib.Seq.{get_or-drop}
use native.Mathlib.Nat.{add-zero}
use native.Mathlib.Omega.{arith}
use native.Mathlib.Decide.{dec_lt}
use Rattle.grammar.specs.Grammar.{Grammar, Symbols, none, more, Formed}
use Rattle.grammar.specs.Useful.{Nonterminal, Productive}
use Rattle.grammar.proofs.Derive.{derives_yields}
use Rattle.grammar.proofs.Yield.{Yields, nil, terminal, append, fold_back, yield_terminals}
use Rattle.lr.proofs.Runs
use Rattle.lr.proofs.Canonical.{Canonical, in_core, by_path}
use Rattle.lr.specs.Items
use Rattle.lr.proofs.Firsts.{FirstYields, yields, empty, first_yields}

pub snoc_last : (γ δ : List ℕ) (x y : ℕ) → γ ++ x ∷ [] ≡ δ ++ y ∷ [] → (γ ≡ δ) × (x ≡ y)
snoc_last γ δ x y e =
    let t : ◌≡◌ {A = List ℕ} (x ∷ reverse γ) (y ∷ reverse δ) = sym (reverse-append γ (x ∷ [])) ∙ ap reverse e ∙ reverse-append δ (y ∷ []) in
    let r : reverse γ ≡ reverse δ = cc in
    (sym (reverse-reverse γ) ∙ ap reverse r ∙ reverse-reverse δ, cc)

pub not_snoc : (δ : List ℕ) (y : ℕ) → [] ≡ δ ++ y ∷ [] → ⊥
not_snoc [] y e = let z : ◌≡◌ {A = ℕ} 0 1 = cc in omega arith
not_snoc (x ∷ δ) y e = let z : ◌≡◌ {A = ℕ} 0 1 = cc in omega arith

pub drop_next : (d : ℕ) (l : List ℕ) {x : ℕ} {β : List ℕ} → drop d l ≡ x ∷ β → drop (suc d) l ≡ β
drop_next zero [] e = absurd (omega (arith, bad e))
  where
    bad : {x : ℕ} {β : List ℕ} → ◌≡◌ {A = List ℕ} [] (x ∷ β) → ◌≡◌ {A = ℕ} 0 1
    bad e = cc
drop_next zero (y ∷ l) e = cc
drop_next (suc d) [] e = absurd (omega (arith, bad e))
  where
    bad : {x : ℕ} {β : List ℕ} → ◌≡◌ {A = List ℕ} [] (x ∷ β) → ◌≡◌ {A = ℕ} 0 1
    bad e = cc
drop_next (suc d) (y ∷ l) e = drop_next d l e

-- what begins at the dot stands at the dot
pub first_at : (d : ℕ) (l : List ℕ) {x : ℕ} {β : List ℕ} → drop d l ≡ x ∷ β → get_or l d 0 ≡ x
first_at d l e = ap (λ (i : ℕ). get_or l i 0) (sym (add-zero d)) ∙ sym (get_or-drop d l 0 0) ∙ ap (λ (k : List ℕ). get_or k 0 0) e

pub take_next : (d : ℕ) (l : List ℕ) {x : ℕ} {β : List ℕ} → drop d l ≡ x ∷ β → take (suc d) l ≡ take d l ++ x ∷ []
take_next zero [] e = cc
take_next zero (y ∷ l) e = cc
take_next (suc d) [] e = cc
take_next (suc d) (y ∷ l) e = ap (λ (k : List ℕ). y ∷ k) (take_next d l e)

module _ (g : Grammar) where
  -- where an item of production r came from: the path up to the production's first symbol, whose state has the production's left side behind a dot
  pub data Origin (r d : ℕ) : List ℕ → Type 0 where
    added : r ≡ g.productions → Origin r d (take d (g.right r))
    inner : (α : List ℕ) → r < g.productions → Runs.After g α (g.left r) → Items.Item g α r 0 → Origin r d (α ++ take d (g.right r))

  origin_next : {r d x : ℕ} {γ β : List ℕ} → drop d (g.right r) ≡ x ∷ β → Origin r d γ → Origin r (suc d) (γ ++ x ∷ [])
  origin_next {r} {d} e (added h) = rw (← take_next d (g.right r) e) (added h)
  origin_next {r} {d} e (inner α h k i) = rw (append_assoc, ← take_next d (g.right r) e) (inner α h k i)

  pub origin : {γ : List ℕ} {r d a : ℕ} → Canonical g γ r d a → Origin r d γ
  origin Canonical.start = added refl
  origin (Canonical.close {γ} {s} i e h f) =
      let o : Origin s 0 (γ ++ []) = inner γ h (Runs.dot_before (in_core i) e) (in_core (Canonical.close i e h f)) in
      rw append-nil at o
  origin (Canonical.goto i e) = origin_next e (origin i)

  -- nonterminals are productive: each yields some terminals
  pub record AllProductive : Type 0 where
    pub made : {x : ℕ} → g.terminals ≤ x → x < g.terminals + g.nonterminals → (p : List ℕ) × (w : List ℕ) × Yields g (x ∷ []) p w

  pub all_productive : ((x : ℕ) → Nonterminal g x → Productive g x) → AllProductive
  all_productive h = record { made = λ {x} a b. let p = h x (record { from = a; below = b }) in let y = derives_yields g p.derived p.terminals in (y.0, p.made, y.1) }

  pub data Extends (u : List ℕ) : Type 0 where
    extended : (z : List ℕ) {q : List ℕ} → Yields g (g.terminals ∷ []) q (u ++ z) → Extends u

  longer : {u : List ℕ} (v : List ℕ) → Extends (u ++ v) → Extends u
  longer {u} v (extended z y) = extended (v ++ z) (rw append_assoc at y)

  module _ (f : Formed g) (pr : AllProductive) where
    pub all_made : {β : List ℕ} → Symbols (g.terminals + g.nonterminals) β → (p : List ℕ) × (w : List ℕ) × Yields g β p w
    all_made none = ([], [], nil)
    all_made (more {a} h k s) = go (dec_lt a g.terminals) (all_made s)
      where
        go : {β : List ℕ} → Dec (a < g.terminals) → ((p : List ℕ) × (w : List ℕ) × Yields g β p w) → (p : List ℕ) × (w : List ℕ) × Yields g (a ∷ β) p w
        go (yes l) t = (_, _, terminal h l t.2)
        go (no n) t = let m = pr.made {x = a} (omega arith) k in (_, _, append g m.2 t.2)

    pub symbols_drop : (d : ℕ) {n : ℕ} {l : List ℕ} → Symbols n l → Symbols n (drop d l)
    symbols_drop zero s = s
    symbols_drop (suc d) none = none
    symbols_drop (suc d) (more h k s) = symbols_drop d s

    symbols_tail : {n x : ℕ} {β : List ℕ} → Symbols n (x ∷ β) → Symbols n β
    symbols_tail (more h k s) = s

    pub right_of : {r d : ℕ} {γ : List ℕ} → Origin r d γ → Symbols (g.terminals + g.nonterminals) (g.right r)
    right_of (added e) = rw (e, f.added) (more (f.end_marker) (omega (arith, f.start_nonterminal)) none)
    right_of (inner α h k i) = f.right_symbols _ h

    -- what an item's state has read, with what stands behind the item's dot, begins a sentence
    pub extends : {γ : List ℕ} {r d a : ℕ} {p u : List ℕ} → Canonical g γ r d a → Yields g (γ ++ drop d (g.right r)) p u → Extends u
    extends {p} {u} Canonical.start y = extended [] {q = p} (rw (append-nil, ← f.added) y)
    extends {u} (Canonical.close {γ} {β} {r} {d} {s} i e h fi) y =
        let m = all_made (symbols_tail (rw e at (symbols_drop d (right_of (origin i))))) in
        let whole : Yields g (γ ++ (g.right s ++ β)) _ (u ++ m.1) = rw append_assoc at (append g y m.2) in
        let t = fold_back g γ β s h whole in
        longer m.1 (extends {p = t.0} i (rw e t.1))
    extends {p} {u} (Canonical.goto {γ} {β} {r} {d} {x} i e) y =
        let y' : Yields g (γ ++ x ∷ β) p u = rw (drop_next d (g.right r) e, append_assoc) at y in
        extends {p = p} i (rw e y')

    -- and so does what the state has read
    pub begins : {γ : List ℕ} {r d a : ℕ} {p u : List ℕ} → Canonical g γ r d a → Yields g γ p u → Extends u
    begins {d} i y = let m = all_made (symbols_drop d (right_of (origin i))) in longer m.1 (extends i (append g y m.2))

    -- what stands behind a symbol behind an item's dot
    pub after_symbols : {γ β : List ℕ} {r d a x : ℕ} → Canonical g γ r d a → drop d (g.right r) ≡ x ∷ β → Symbols (g.terminals + g.nonterminals) β
    after_symbols {d} i e = symbols_tail (rw e at (symbols_drop d (right_of (origin i))))

    symbols_head : {n x : ℕ} {β : List ℕ} → Symbols n (x ∷ β) → 0 < x
    symbols_head (more h k s) = h

    -- the end marker stands behind no dot
    pub after_positive : {γ : List ℕ} {x : ℕ} → Runs.After g γ x → 0 < x
    after_positive (Runs.dot_before {d} (Items.with_lookahead _ i) e) = symbols_head (rw e at (symbols_drop d (right_of (origin (by_path i)))))

-- lookaheads are terminals, and the added production's is the end marker
module _ (g : Grammar) (f : Formed g) where
  first_terminal : {β : List ℕ} {a b : ℕ} → a < g.terminals → FirstYields g β a b → b < g.terminals
  first_terminal h (yields y) = go (yield_terminals g y)
    where
      go : {b : ℕ} {w : List ℕ} → Symbols g.terminals (b ∷ w) → b < g.terminals
      go (Symbols.more h k m) = k
  first_terminal h (empty y e) = rw e h

  pub lookahead_terminal : {γ : List ℕ} {r d a : ℕ} → Canonical g γ r d a → a < g.terminals
  lookahead_terminal Canonical.start = f.end_marker
  lookahead_terminal (Canonical.close i e h fi) = first_terminal (lookahead_terminal i) (first_yields g fi)
  lookahead_terminal (Canonical.goto i e) = lookahead_terminal i

module _ (g : Grammar) where
  pub added_end : {γ : List ℕ} {r d a : ℕ} → r ≡ g.productions → Canonical g γ r d a → a ≡ 0
  added_end e Canonical.start = refl
  added_end e (Canonical.close i e' h fi) = absurd (omega arith)
  added_end e (Canonical.goto i e') = added_end e i
