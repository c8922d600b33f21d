-- What it is for a list of numbers to be the table of a grammar: the layout, and in it the entering symbols and the actions of the merged states.
use Prim.Native.Nat.{ℕ, ◌+◌, ◌<◌, ◌≤◌}
use mathlib.Core.Path.{◌≡◌, refl, sym, ap, ◌∙◌}
use mathlib.Core.Logic.{◌≢◌, ◌↔◌}
use mathlib.Core.List.{List}
use lib.ListN.{length}
use native.Mathlib.Omega.{arith}
use native.Mathlib.Decide.{dec_lt}
use Rattle.grammar.specs.Grammar.{Grammar, Formed}
use Rattle.lr.proofs.Runs.{Act, shift, reduce, accept, wrong}
use Rattle.lr.proofs.Canonical.{by_path}
use Rattle.lr.specs.Items
use Rattle.lr.specs.States.{States}
use Rattle.lr.specs.Cells.{Action, shifts, reduces, accepts, Entered}
use Rattle.lr.proofs.ItemLaws.{AllProductive, lookahead_terminal, added_end}
use Rattle.lr.proofs.Paths.{Has, state_automaton}
use Rattle.lr.proofs.Automaton.{Automaton, Cells, Lookahead, walk, sits_lookahead, merged_item}
use Rattle.tables.specs.Layout
use Rattle.tables.specs.Layout.{states, terminals, nonterminals, productions, cell_of, left_of, length_of, entered_of, size_of, reduction}
use Rattle.machine.proofs.LrMachineLaws.{Kind, kind, is_wrong, is_shift, is_accept, is_reduce}

-- the limits of sizes
pub record Limits (g : Grammar) : Type 0 where
  pub terminals_most : g.terminals ≤ 64
  pub nonterminals_most : g.nonterminals ≤ 60
  pub productions_least : 1 ≤ g.productions
  pub productions_most : g.productions ≤ 128
  pub length_most : (r : ℕ) → r < g.productions → length (g.right r) ≤ 512

pub record TableMeans (g : Grammar) (t : List ℕ) : Type 0 where
  pub next : ℕ → ℕ → ℕ
  pub numbered : States g (states t) next
  pub states_most : states t ≤ 256
  pub terminals_are : terminals t ≡ g.terminals
  pub nonterminals_are : nonterminals t ≡ g.nonterminals
  pub productions_are : productions t ≡ g.productions
  pub whole : size_of t ≤ length t
  pub lefts : (r : ℕ) → r < g.productions → left_of t r ≡ g.left r
  pub lengths : (r : ℕ) → r < g.productions → length_of t r ≡ length (g.right r)
  pub entered : (q x : ℕ) → q < states t → (entered_of t q ≡ x) ↔ Entered g next q x
  pub in_cell : {q m v : ℕ} → q < states t → m < g.terminals → Action g next q m v → cell_of t q m ≡ v
  pub from_cell : {q m : ℕ} → q < states t → m < g.terminals → cell_of t q m ≢ 0 → Action g next q m (cell_of t q m)
  pub nonterminal_cell : {q x : ℕ} → q < states t → g.terminals ≤ x → x < g.terminals + g.nonterminals → cell_of t q x ≡ next q x

-- the action that a number stands for
abbrev act_of : {v : ℕ} → Kind v → Act
act_of is_wrong = wrong
act_of (is_shift s h k) = shift
act_of is_accept = accept
act_of (is_reduce r n) = reduce r

abbrev pub decode : ℕ → Act
decode v = act_of (kind v)

pub decode_wrong : (v : ℕ) → v ≡ 0 → decode v ≡ wrong
decode_wrong v e = go (kind v)
  where
    go : (k : Kind v) → act_of k ≡ wrong
    go k = go' k e
      where
        go' : {v : ℕ} (k : Kind v) → v ≡ 0 → act_of k ≡ wrong
        go' is_wrong e = refl
        go' (is_shift s h k) e = absurd (omega arith)
        go' is_accept e = absurd (omega arith)
        go' (is_reduce r n) e = absurd (omega arith)

pub decode_shift : (v : ℕ) → 0 < v → v < 1024 → decode v ≡ shift
decode_shift v h k = go (kind v) h k
  where
    go : {v : ℕ} (k : Kind v) → 0 < v → v < 1024 → act_of k ≡ shift
    go is_wrong h k = absurd (omega arith)
    go (is_shift s _ _) h k = refl
    go is_accept h k = absurd (omega arith)
    go (is_reduce r n) h k = absurd (omega arith)

pub decode_accept : (v : ℕ) → v ≡ Layout.accept → decode v ≡ accept
decode_accept v e = go (kind v) e
  where
    go : {v : ℕ} (k : Kind v) → v ≡ Layout.accept → act_of k ≡ accept
    go is_wrong e = absurd (omega arith)
    go (is_shift s h k) e = absurd (omega arith)
    go is_accept e = refl
    go (is_reduce r n) e = absurd (n (omega arith))

pub decode_reduce : (v r : ℕ) → reduction r ≢ Layout.accept → v ≡ reduction r → decode v ≡ reduce r
decode_reduce v r n e = go (kind v) e
  where
    go : {v : ℕ} (k : Kind v) → v ≡ reduction r → act_of k ≡ reduce r
    go is_wrong e = absurd (omega arith)
    go (is_shift s h k) e = absurd (omega arith)
    go is_accept e = absurd (n (omega arith))
    go (is_reduce r' _) e = let z : r' ≡ r = omega arith in ap reduce z

-- and back
pub data Coded : Act → ℕ → Type 0 where
  code_wrong : Coded wrong 0
  code_shift : {v : ℕ} → 0 < v → v < 1024 → Coded shift v
  code_accept : Coded accept Layout.accept
  code_reduce : {r : ℕ} → reduction r ≢ Layout.accept → Coded (reduce r) (reduction r)

pub coded : (v : ℕ) → Coded (decode v) v
coded v = go (kind v)
  where
    go : {v : ℕ} (k : Kind v) → Coded (act_of k) v
    go is_wrong = code_wrong
    go (is_shift s h k) = code_shift h k
    go is_accept = code_accept
    go (is_reduce r n) = code_reduce n

abbrev within : {m n : ℕ} → Dec (m < n) → Act → Act
within (yes h) a = a
within (no h) a = wrong

-- the action of state q under terminal m; beyond the terminals there is none
abbrev pub action_at : List ℕ → ℕ → ℕ → Act
action_at t q m = within (dec_lt m (terminals t)) (decode (cell_of t q m))

pub action_below : (t : List ℕ) (q m : ℕ) → m < terminals t → action_at t q m ≡ decode (cell_of t q m)
action_below t q m h = go (dec_lt m (terminals t))
  where
    go : (d : Dec (m < terminals t)) → within d (decode (cell_of t q m)) ≡ decode (cell_of t q m)
    go (yes _) = refl
    go (no n) = absurd (n h)

pub action_some : (t : List ℕ) (q m : ℕ) → action_at t q m ≢ wrong → m < terminals t
action_some t q m z = go (dec_lt m (terminals t)) z
  where
    go : (d : Dec (m < terminals t)) → within d (decode (cell_of t q m)) ≢ wrong → m < terminals t
    go (yes h) z = h
    go (no n) z = absurd (z refl)

not_wrong : {a : Act} → a ≡ shift → a ≢ wrong
not_wrong e e' = let z : ◌≡◌ {A = ℕ} 0 1 = cc in omega arith

not_wrong_r : {a : Act} {r : ℕ} → a ≡ reduce r → a ≢ wrong
not_wrong_r e e' = let z : ◌≡◌ {A = ℕ} 0 1 = cc in omega arith

not_wrong_a : {a : Act} → a ≡ accept → a ≢ wrong
not_wrong_a e e' = let z : ◌≡◌ {A = ℕ} 0 1 = cc in omega arith

-- what the cell says of its number
pub shift_code : {a : Act} {v : ℕ} → Coded a v → a ≡ shift → (0 < v) × (v < 1024)
shift_code code_wrong e = let z : ◌≡◌ {A = ℕ} 0 1 = cc in absurd (omega arith)
shift_code (code_shift h k) e = (h, k)
shift_code code_accept e = let z : ◌≡◌ {A = ℕ} 0 1 = cc in absurd (omega arith)
shift_code (code_reduce n) e = let z : ◌≡◌ {A = ℕ} 0 1 = cc in absurd (omega arith)

pub reduce_code : {a : Act} {v r : ℕ} → Coded a v → a ≡ reduce r → (v ≡ reduction r) × (reduction r ≢ Layout.accept)
reduce_code code_wrong e = let z : ◌≡◌ {A = ℕ} 0 1 = cc in absurd (omega arith)
reduce_code (code_shift h k) e = let z : ◌≡◌ {A = ℕ} 0 1 = cc in absurd (omega arith)
reduce_code code_accept e = let z : ◌≡◌ {A = ℕ} 0 1 = cc in absurd (omega arith)
reduce_code {r} (code_reduce {r = r'} n) e = let z : r' ≡ r = cc in (ap reduction z, λ k. n (ap reduction z ∙ k))

pub accept_code : {a : Act} {v : ℕ} → Coded a v → a ≡ accept → v ≡ Layout.accept
accept_code code_wrong e = let z : ◌≡◌ {A = ℕ} 0 1 = cc in absurd (omega arith)
accept_code (code_shift h k) e = let z : ◌≡◌ {A = ℕ} 0 1 = cc in absurd (omega arith)
accept_code code_accept e = refl
accept_code (code_reduce n) e = let z : ◌≡◌ {A = ℕ} 0 1 = cc in absurd (omega arith)

-- the lookahead of the added production's complete item is the end marker
module _ (g : Grammar) (f : Formed g) (next : ℕ → ℕ → ℕ) where
  added_lookahead : {q m : ℕ} → m ≡ 0 → Has g next q g.productions 1 → Lookahead g next q g.productions m
  added_lookahead {q} {m} e h = go h.path h.leads h.item
    where
      go : (γ : List ℕ) → walk next 0 γ ≡ q → Items.Item g γ g.productions 1 → Lookahead g next q g.productions m
      go γ el (Items.with_lookahead a i) =
          let ea : a ≡ m = added_end g refl (by_path i) ∙ sym e in
          let n : length (g.right g.productions) ≡ 1 = ap length (f.added) in
          sits_lookahead g (record { path = γ; leads = el; item = rw n (rw ea at (by_path i)) })

  pub lookahead_added : {q m : ℕ} → Lookahead g next q g.productions m → (m ≡ 0) × Has g next q g.productions 1
  lookahead_added a =
      let n : length (g.right g.productions) ≡ 1 = ap length (f.added) in
      (added_end g refl (by_path a.merged.item), record { path = a.path; leads = a.leads; item = rw n at (merged_item g a.merged) })

module _ (g : Grammar) (f : Formed g) (pr : AllProductive g) (li : Limits g) (t : List ℕ) (tm : TableMeans g t) where
  pub automaton : Automaton g (states t) (Has g tm.next) tm.next
  automaton = state_automaton g f pr (states t) tm.next tm.numbered

  below : {m : ℕ} → m < terminals t → m < g.terminals
  below h = rw tm.terminals_are at h

  above : {m : ℕ} → m < g.terminals → m < terminals t
  above h = rw tm.terminals_are h

  next_most : (q x : ℕ) → q < states t → tm.next q x < 256
  next_most q x h = let k = automaton.next_below {q = q} {x = x} h in let k' = tm.states_most in omega arith

  -- the cells of a table that means a grammar are those of its automaton
  pub cells : Cells g (states t) (Has g tm.next) tm.next (action_at t)
  cells =
      record {
        shifts = λ {q} {m} h. (λ e. to_shift q m h e, λ p. from_shift q m h p.0 p.1);
        reduces = λ {q} {m} {r} h. (λ e. to_reduce q m r h e, λ p. from_reduce q m r h p.0 p.1);
        accepts = λ {q} {m} h. (λ e. to_accept q m h e, λ p. from_accept q m h p.0 p.1);
      }
    where
      to_shift : (q m : ℕ) → q < states t → action_at t q m ≡ shift → (m < g.terminals) × (tm.next q m ≢ 0)
      to_shift q m h e =
          let b = action_some t q m (not_wrong e) in
          let c = shift_code (coded (cell_of t q m)) (sym (action_below t q m b) ∙ e) in
          (below b, go (tm.from_cell h (below b) (omega arith)) c.0 c.1)
        where
          go : {v : ℕ} → Action g tm.next q m v → 0 < v → v < 1024 → tm.next q m ≢ 0
          go (shifts k z) _ _ = z
          go (reduces r k a) h k' = absurd (omega arith)
          go (accepts a) h k' = absurd (omega arith)

      from_shift : (q m : ℕ) → q < states t → m < g.terminals → tm.next q m ≢ 0 → action_at t q m ≡ shift
      from_shift q m h k z =
          let e = tm.in_cell h k (shifts k z) in
          let n = next_most q m h in
          action_below t q m (above k) ∙ decode_shift (cell_of t q m) (omega (arith, z)) (omega arith)

      to_reduce : (q m r : ℕ) → q < states t → action_at t q m ≡ reduce r → (r < g.productions) × Lookahead g tm.next q r m
      to_reduce q m r h e =
          let b = action_some t q m (not_wrong_r e) in
          let c = reduce_code (coded (cell_of t q m)) (sym (action_below t q m b) ∙ e) in
          go (tm.from_cell h (below b) (omega (arith, c.0))) c.0 c.1
        where
          go : {v : ℕ} → Action g tm.next q m v → v ≡ reduction r → reduction r ≢ Layout.accept → (r < g.productions) × Lookahead g tm.next q r m
          go (shifts k z) c n = absurd (let k = next_most q m h in omega arith)
          go (reduces r' k a) c n = let z : r' ≡ r = omega arith in let p : (r' < g.productions) × Lookahead g tm.next q r' m = (k, a) in rw z at p
          go (accepts a) c n = absurd (n (omega arith))

      from_reduce : (q m r : ℕ) → q < states t → r < g.productions → Lookahead g tm.next q r m → action_at t q m ≡ reduce r
      from_reduce q m r h k a =
          let b = lookahead_terminal g f (by_path a.merged.item) in
          let n = li.productions_most in
          action_below t q m (above b) ∙ decode_reduce (cell_of t q m) r (omega arith) (tm.in_cell h b (reduces r k a))

      to_accept : (q m : ℕ) → q < states t → action_at t q m ≡ accept → (m ≡ 0) × Has g tm.next q g.productions 1
      to_accept q m h e =
          let b = action_some t q m (not_wrong_a e) in
          let c = accept_code (coded (cell_of t q m)) (sym (action_below t q m b) ∙ e) in
          go (tm.from_cell h (below b) (omega (arith, c))) c
        where
          go : {v : ℕ} → Action g tm.next q m v → v ≡ Layout.accept → (m ≡ 0) × Has g tm.next q g.productions 1
          go (shifts k z) c = absurd (let k = next_most q m h in omega arith)
          go (reduces r k a) c = absurd (let n = li.productions_most in omega arith)
          go (accepts a) c = lookahead_added g f tm.next a

      from_accept : (q m : ℕ) → q < states t → m ≡ 0 → Has g tm.next q g.productions 1 → action_at t q m ≡ accept
      from_accept q m h e a =
          let b : m < g.terminals = rw e (f.end_marker) in
          action_below t q m (above b) ∙ decode_accept (cell_of t q m) (tm.in_cell h b (accepts (added_lookahead g f tm.next e a)))
