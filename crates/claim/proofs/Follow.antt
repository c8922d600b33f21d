-- The LR machine over a table that means a grammar makes the runs along the grammar's paths.
use Prim.Native.Nat.{ℕ, suc, ◌+◌, ◌<◌}
use mathlib.Core.Path.{◌≡◌, refl, sym, ap, ◌∙◌}
use mathlib.Core.Logic.{◌≢◌}
use mathlib.Core.List.{List, [], ◌∷◌, ◌++◌, append_assoc, append-nil, append_cancel_right}
use lib.ListN.{length, drop}
use native.Mathlib.Omega.{arith}
use Rattle.grammar.specs.Grammar.{Grammar, Formed, Symbols}
use Rattle.lr.proofs.Runs
use Rattle.lr.proofs.Canonical.{by_path}
use Rattle.lr.specs.Items
use Rattle.sets.specs.Lists.{peek, rest}
use Rattle.lr.proofs.Runs.{Act, shift, reduce, accept, wrong}
use Rattle.lr.proofs.ItemLaws.{AllProductive, after_positive}
use Rattle.lr.proofs.Automaton.{goes, walk, walk_snoc, table, has_of}
use Rattle.lr.specs.Cells.{Action}
use Rattle.lr.proofs.Paths.{Has}
use Rattle.lr.proofs.MachineLaws.{after_viable, reduction, Reducible, reducible}
use Rattle.lr.proofs.ErrorPosition.{top, stack, stack_snoc, stack_top, stack_pop}
use Rattle.tables.specs.Layout
use Rattle.tables.specs.Layout.{states, terminals, productions, cell_of, left_of, length_of}
use Rattle.machine.proofs.LrMachineLaws.{Config, conf, Step, Path, Broken, pops_all, no_next, Ends}
use Rattle.claim.proofs.Means.{Limits, TableMeans, automaton, cells, action_at, action_below, decode, decode_shift, decode_reduce, decode_accept, decode_wrong, coded, shift_code, reduce_code}

module _ (g : Grammar) (f : Formed g) (pr : AllProductive g) (li : Limits g) (t : List ℕ) (tm : TableMeans g t) where
  abbrev pub act : List ℕ → ℕ → Act
  act γ m = action_at t (walk tm.next 0 γ) m

  abbrev pub tab : Runs.Table g act
  tab = table g f pr (states t) (Has g tm.next) tm.next (automaton g f pr li t tm) (action_at t) (cells g f pr li t tm)

  -- the states of a path, from the top down
  abbrev pub on : List ℕ → List ℕ
  on γ = stack tm.next 0 γ []

  look_below : {x : List ℕ} → Symbols g.terminals x → peek x < terminals t
  look_below Symbols.none = rw tm.terminals_are (f.end_marker)
  look_below (Symbols.more h k m) = rw tm.terminals_are k

  pub act_is : (γ : List ℕ) {x : List ℕ} → Symbols g.terminals x → act γ (peek x) ≡ decode (cell_of t (walk tm.next 0 γ) (peek x))
  act_is γ {x} m = action_below t (walk tm.next 0 γ) (peek x) (look_below m)

  pub top_walk : (γ : List ℕ) {q : ℕ} {qs : List ℕ} → q ∷ qs ≡ on γ → q ≡ walk tm.next 0 γ
  top_walk γ e = ap top e ∙ stack_top tm.next 0 γ []

  pub after_steps : {γ : List ℕ} {x : ℕ} → Runs.After g γ x → (walk tm.next 0 γ < states t) × (tm.next (walk tm.next 0 γ) x ≢ 0)
  after_steps (Runs.dot_before (Items.with_lookahead _ i) e) = let h = has_of g f pr (states t) (Has g tm.next) tm.next (automaton g f pr li t tm) (by_path i) in (h.0, ((automaton g f pr li t tm).next_some h.0).1 (goes h.1 e))

  -- where the LR machine has come from a path's configuration, a run along paths has come by as many steps
  pub data Followed (γ x out : List ℕ) (n : ℕ) : Config → Type 0 where
    followed : {γ' x' p : List ℕ} → Runs.Run g act γ x p γ' x' → Items.Viable g γ' → Symbols g.terminals x' → n + length x' ≡ length p + length x → Followed γ x out n (conf (on γ') x' (out ++ p))

  -- one step
  pub data Stepped (γ x out : List ℕ) : Config → Type 0 where
    shifted : {m : ℕ} {x' : List ℕ} → x ≡ m ∷ x' → act γ m ≡ shift → Items.Viable g (γ ++ m ∷ []) → Symbols g.terminals x' → Stepped γ x out (conf (on (γ ++ m ∷ [])) x' out)
    reduced : (α : List ℕ) (r : ℕ) → act γ (peek x) ≡ reduce r → γ ≡ α ++ g.right r → Items.Viable g (α ++ g.left r ∷ []) → Stepped γ x out (conf (on (α ++ g.left r ∷ [])) x (out ++ r ∷ []))

  -- what a reduction finds
  pub data Found (r : ℕ) (γ : List ℕ) : Type 0 where
    found : (α : List ℕ) → γ ≡ α ++ g.right r → r < g.productions → drop (length_of t r) (on γ) ≡ on α → cell_of t (walk tm.next 0 α) (left_of t r) ≡ walk tm.next 0 (α ++ g.left r ∷ [])
        → walk tm.next 0 (α ++ g.left r ∷ []) ≢ 0 → Items.Viable g (α ++ g.left r ∷ []) → Found r γ

  pub finds : {γ : List ℕ} (m : ℕ) {r : ℕ} → Items.Viable g γ → act γ m ≡ reduce r → Found r γ
  finds {γ} m {r} v e = go (reduction g f act tab v e)
    where
      go : {γ : List ℕ} → Reducible g f act tab r γ → Found r γ
      go (reducible α h k) =
          let a = after_steps k in
          let w = walk_snoc tm.next 0 α (g.left r) in
          found α refl h
          (ap (λ (n : ℕ). drop n (on (α ++ g.right r))) (tm.lengths r h) ∙ stack_pop tm.next 0 α (g.right r) [])
          (ap (cell_of t (walk tm.next 0 α)) (tm.lefts r h) ∙ tm.nonterminal_cell a.0 (f.left_nonterminal r h) (f.left_below r h) ∙ sym w)
          (λ z. a.1 (sym w ∙ z))
          (after_viable g f act tab k)

  pub steps : {γ qs x out : List ℕ} {c : Config} → Items.Viable g γ → Symbols g.terminals x → qs ≡ on γ → Step t (conf qs x out) c → Stepped γ x out c
  steps {γ} {qs} {x} {out} v m e (Step.shift {q} {qs = qs'} s ec h k) = go m (act_is γ m ∙ ap decode (ap (λ (z : ℕ). cell_of t z (peek x)) (sym (top_walk γ e)) ∙ ec) ∙ decode_shift s h k) ec
    where
      go : {x : List ℕ} → Symbols g.terminals x → act γ (peek x) ≡ shift → cell_of t q (peek x) ≡ s → Stepped γ x out (conf (s ∷ q ∷ qs') (rest x) out)
      go Symbols.none ea ec = absurd (omega (arith, after_positive g f pr (tab.shift_from v ea).1))
      go (Symbols.more {a} {w} h k m) ea ec =
          let af = (tab.shift_from v ea).1 in
          let am = after_steps af in
          let es : s ≡ walk tm.next 0 (γ ++ a ∷ []) = sym ec ∙ ap (λ (z : ℕ). cell_of t z a) (top_walk γ e) ∙ tm.in_cell am.0 k (Action.shifts k am.1) ∙ sym (walk_snoc tm.next 0 γ a) in
          let eo : on (γ ++ a ∷ []) ≡ s ∷ q ∷ qs' = stack_snoc tm.next 0 γ [] a ∙ ap (λ (z : ℕ). z ∷ on γ) (sym es) ∙ ap (λ (z : List ℕ). s ∷ z) (sym e) in
          let z : Stepped γ (a ∷ w) out (conf (on (γ ++ a ∷ [])) w out) = shifted refl ea (after_viable g f act tab af) m in
          rw eo at z
  steps {γ} {qs} {x} {out} v m e (Step.reduce {q} {qs = qs'} r p ps s ec n d fc h) =
      let ea = act_is γ m ∙ ap decode (ap (λ (z : ℕ). cell_of t z (peek x)) (sym (top_walk γ e)) ∙ ec) ∙ decode_reduce (Layout.reduction r) r n refl in
      go ea (finds (peek x) v ea)
    where
      go : act γ (peek x) ≡ reduce r → Found r γ → Stepped γ x out (conf (s ∷ p ∷ ps) x (out ++ r ∷ []))
      go ea (found α eγ hr ed el nz va) =
          let ep : p ∷ ps ≡ on α = sym d ∙ ap (drop (length_of t r)) e ∙ ed in
          let es : s ≡ walk tm.next 0 (α ++ g.left r ∷ []) = sym fc ∙ ap (λ (z : ℕ). cell_of t z (left_of t r)) (top_walk α ep) ∙ el in
          let eo : on (α ++ g.left r ∷ []) ≡ s ∷ p ∷ ps = stack_snoc tm.next 0 α [] (g.left r) ∙ ap (λ (z : ℕ). z ∷ on α) (sym es) ∙ ap (λ (z : List ℕ). s ∷ z) (sym ep) in
          let z : Stepped γ x out (conf (on (α ++ g.left r ∷ [])) x (out ++ r ∷ [])) = reduced α r ea eγ va in
          rw eo at z

  followed_shift : {γ x' out : List ℕ} {m n : ℕ} {c : Config} → act γ m ≡ shift → Followed (γ ++ m ∷ []) x' out n c → Followed γ (m ∷ x') out (suc n) c
  followed_shift ea (followed s v m e) = followed (Runs.shifted ea s) v m (omega (arith, e))

  followed_reduce : {γ x out : List ℕ} {n : ℕ} {c : Config} (α : List ℕ) (r : ℕ) → act γ (peek x) ≡ reduce r → γ ≡ α ++ g.right r
      → Followed (α ++ g.left r ∷ []) x (out ++ r ∷ []) n c → Followed γ x out (suc n) c
  followed_reduce {γ} {x} {out} {n} α r ea eγ (followed {γ'} {x'} {p} s v m e) =
      let z : Followed γ x out (suc n) (conf (on γ') x' (out ++ r ∷ p)) = followed (Runs.reduced α r ea eγ s) v m (omega (arith, e)) in
      rw (← append_assoc out (r ∷ []) p) at z

  pub follows : {n m : ℕ} {c c' : Config} → Path t n m c c' → (γ x out : List ℕ) → c ≡ conf (on γ) x out → Items.Viable g γ → Symbols g.terminals x → Followed γ x out n c'
  follows {c = c} Path.none γ x out e v m =
      let z : Followed γ x out 0 (conf (on γ) x (out ++ [])) = followed Runs.stop v m (omega arith) in
      let e' : conf (on γ) x (out ++ []) ≡ c = ap (λ (z : List ℕ). conf (on γ) x z) (append-nil out) ∙ sym e in
      rw e' at z
  follows (Path.more {n} {c' = c'} {c''} s k) γ x out e v m = go (steps v m refl (rw e at s)) (λ γ x out e v m. follows k γ x out e v m) refl
    where
      go : {d : Config} → Stepped γ x out d → ((γ x out : List ℕ) → c' ≡ conf (on γ) x out → Items.Viable g γ → Symbols g.terminals x → Followed γ x out n c'') → c' ≡ d → Followed γ x out (suc n) c''
      go (shifted {m = a} {x'} ex ea va mx) ih ed = rw ex (followed_shift ea (ih (γ ++ a ∷ []) x' out ed va mx))
      go (reduced α r ea eγ va) ih ed = followed_reduce α r ea eγ (ih (α ++ g.left r ∷ []) x (out ++ r ∷ []) ed va m)

  -- and the other way: the steps of a run along paths are the LR machine's
  pub record Led (γ x out p γ' x' : List ℕ) : Type 0 where
    pub count : ℕ
    pub most : ℕ
    pub path : Path t count most (conf (on γ) x out) (conf (on γ') x' (out ++ p))
    pub exact : count + length x' ≡ length p + length x

  pub on_top : (γ : List ℕ) → (qs : List ℕ) × (on γ ≡ walk tm.next 0 γ ∷ qs)
  on_top γ = go (on γ) refl
    where
      filled : (q : ℕ) (γ acc : List ℕ) → stack tm.next q γ acc ≡ [] → ⊥
      filled q [] acc e = let z : ◌≡◌ {A = ℕ} 0 1 = cc in omega arith
      filled q (y ∷ γ) acc e = filled (tm.next q y) γ (q ∷ acc) e

      go : (qs : List ℕ) → on γ ≡ qs → (qs : List ℕ) × (on γ ≡ walk tm.next 0 γ ∷ qs)
      go [] e = absurd (filled 0 γ [] e)
      go (q ∷ qs) e = (qs, e ∙ ap (λ (z : ℕ). z ∷ qs) (top_walk γ (sym e)))

  step_shift : {γ x out : List ℕ} {m : ℕ} → Items.Viable g γ → Symbols g.terminals (m ∷ x) → act γ m ≡ shift → Step t (conf (on γ) (m ∷ x) out) (conf (on (γ ++ m ∷ [])) x out)
  step_shift {γ} {x} {out} {m} v mk ea =
      let o = on_top γ in
      let af = tab.shift_from v ea in
      let am = after_steps af.1 in
      let c = shift_code (coded (cell_of t (walk tm.next 0 γ) m)) (sym (act_is γ mk) ∙ ea) in
      let es : cell_of t (walk tm.next 0 γ) m ≡ walk tm.next 0 (γ ++ m ∷ []) = tm.in_cell am.0 af.0 (Action.shifts af.0 am.1) ∙ sym (walk_snoc tm.next 0 γ m) in
      let s : Step t (conf (walk tm.next 0 γ ∷ o.0) (m ∷ x) out) (conf (cell_of t (walk tm.next 0 γ) m ∷ walk tm.next 0 γ ∷ o.0) x out) = Step.shift (cell_of t (walk tm.next 0 γ) m) refl c.0 c.1 in
      rw (stack_snoc tm.next 0 γ [] m) (rw (← o.1, es) at s)

  step_reduce : {γ x out : List ℕ} (α : List ℕ) {r : ℕ} → Items.Viable g γ → Symbols g.terminals x → act γ (peek x) ≡ reduce r → γ ≡ α ++ g.right r
      → Step t (conf (on γ) x out) (conf (on (α ++ g.left r ∷ [])) x (out ++ r ∷ [])) × Items.Viable g (α ++ g.left r ∷ [])
  step_reduce {γ} {x} {out} α {r} v mk ea eγ = go (finds (peek x) v ea)
    where
      go : Found r γ → Step t (conf (on γ) x out) (conf (on (α ++ g.left r ∷ [])) x (out ++ r ∷ [])) × Items.Viable g (α ++ g.left r ∷ [])
      go (found α' e' hr ed el nz va) =
          let eα : α' ≡ α = append_cancel_right α' α (g.right r) (sym e' ∙ eγ) in
          let o = on_top γ in
          let o' = on_top α' in
          let c = reduce_code (coded (cell_of t (walk tm.next 0 γ) (peek x))) (sym (act_is γ mk) ∙ ea) in
          let d : drop (length_of t r) (walk tm.next 0 γ ∷ o.0) ≡ walk tm.next 0 α' ∷ o'.0 = ap (drop (length_of t r)) (sym o.1) ∙ ed ∙ o'.1 in
          let s : Step t (conf (walk tm.next 0 γ ∷ o.0) x out) (conf (walk tm.next 0 (α' ++ g.left r ∷ []) ∷ walk tm.next 0 α' ∷ o'.0) x (out ++ r ∷ [])) =
          Step.reduce r (walk tm.next 0 α') o'.0 (walk tm.next 0 (α' ++ g.left r ∷ [])) c.0 c.1 d el (omega (arith, nz)) in
          let e'' : on (α' ++ g.left r ∷ []) ≡ walk tm.next 0 (α' ++ g.left r ∷ []) ∷ walk tm.next 0 α' ∷ o'.0 = stack_snoc tm.next 0 α' [] (g.left r) ∙ ap (λ (z : List ℕ). walk tm.next 0 (α' ++ g.left r ∷ []) ∷ z) o'.1 in
          rw (← eα) (rw (← e'', ← o.1) at s, va)

  pub leads : {γ x p γ' x' : List ℕ} → Runs.Run g act γ x p γ' x' → (out : List ℕ) → Items.Viable g γ → Symbols g.terminals x → Led γ x out p γ' x'
  leads {γ} {x} Runs.stop out v m = record { count = 0; most = length (on γ); path = rw append-nil Path.none; exact = omega arith }
  leads (Runs.shifted e s) out v (Symbols.more h k m) =
      let t = leads s out (after_viable g f act tab (tab.shift_from v e).1) m in
      record { count = suc t.count; most = _; path = Path.more (step_shift v (Symbols.more h k m) e) t.path; exact = omega (arith, t.exact) }
  leads (Runs.reduced {p} α r e₁ e₂ s) out v m =
      let z = step_reduce {out = out} α v m e₁ e₂ in
      let t = leads s (out ++ r ∷ []) z.1 m in
      record { count = suc t.count; most = _; path = Path.more z.0 (rw append_assoc at t.path); exact = omega (arith, t.exact) }

  -- the ends
  pub ends_accept : (γ : List ℕ) {x out qs : List ℕ} {n : ℕ} → Symbols g.terminals x → qs ≡ on γ → Ends t (conf qs x out) n → n ≡ 0 → act γ (peek x) ≡ accept
  ends_accept γ {x} m e (Ends.accepts ec) z = act_is γ m ∙ ap decode (ap (λ (z : ℕ). cell_of t z (peek x)) (sym (top_walk γ e)) ∙ ec) ∙ decode_accept Layout.accept refl
  ends_accept γ m e (Ends.wrong ec) z = absurd (omega arith)
  ends_accept γ m e (Ends.broken r ec n b) z = absurd (omega arith)

  pub ends_wrong : (γ : List ℕ) {x out qs : List ℕ} {n : ℕ} → Symbols g.terminals x → qs ≡ on γ → Ends t (conf qs x out) n → n ≡ 31 → act γ (peek x) ≡ wrong
  ends_wrong γ m e (Ends.accepts ec) z = absurd (omega arith)
  ends_wrong γ {x} m e (Ends.wrong ec) z = act_is γ m ∙ ap decode (ap (λ (z : ℕ). cell_of t z (peek x)) (sym (top_walk γ e)) ∙ ec) ∙ decode_wrong 0 refl
  ends_wrong γ m e (Ends.broken r ec n b) z = absurd (omega arith)

  pub never_broken : {γ x out qs : List ℕ} {n : ℕ} → Items.Viable g γ → Symbols g.terminals x → qs ≡ on γ → Ends t (conf qs x out) n → n ≡ 35 → ⊥
  never_broken v m e (Ends.accepts ec) z = omega arith
  never_broken v m e (Ends.wrong ec) z = omega arith
  never_broken {γ} {x} {qs} v m e (Ends.broken r ec n b) z =
      go (finds (peek x) v (act_is γ m ∙ ap decode (ap (λ (z : ℕ). cell_of t z (peek x)) (sym (top_walk γ e)) ∙ ec) ∙ decode_reduce (Layout.reduction r) r n refl)) e b
    where
      go : {qs : List ℕ} → Found r γ → qs ≡ on γ → Broken t r qs → ⊥
      go (found α eγ hr ed el nz va) e (pops_all d) =
          let o = on_top α in
          let bad : ◌≡◌ {A = List ℕ} [] (walk tm.next 0 α ∷ o.0) = sym d ∙ ap (drop (length_of t r)) e ∙ ed ∙ o.1 in
          let z : ◌≡◌ {A = ℕ} 0 1 = cc in
          omega arith
      go (found α eγ hr ed el nz va) e (no_next p ps d y) =
          let ep : p ∷ ps ≡ on α = sym d ∙ ap (drop (length_of t r)) e ∙ ed in
          nz (sym el ∙ ap (λ (z : ℕ). cell_of t z (left_of t r)) (sym (top_walk α ep)) ∙ y)
