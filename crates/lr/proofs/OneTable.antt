-- There is one table: two lists that are the grammar's table are equal.
use Prim.Native.Nat.{ℕ, suc, ◌+◌, ◌-◌, ◌≤◌, ◌<◌}
use mathlib.Core.Path.{◌≡◌, refl, sym, ◌∙◌, subst}
use mathlib.Core.List.{List}
use lib.ListN.{length, get_or}
use native.Mathlib.Omega.{arith}
use native.Mathlib.Decide.{ℕ_discrete, dec_lt}
use Rattle.grammar.specs.Grammar.{Grammar, Formed}
use Rattle.lr.specs.Items
use Rattle.lr.proofs.ItemLaws.{AllProductive}
use Rattle.lr.proofs.Automaton.{Lookahead, walk, merged_viable}
use Rattle.lr.specs.States.{States}
use Rattle.lr.specs.Cells.{Action, shifts, reduces, accepts, Cell, Entered, start, last, Table}
use Rattle.tables.specs.Layout as layout
use Rattle.tables.proofs.LayoutLaws.{one_list, at_most}
use Rattle.lr.proofs.CellLaws.{action_cell, cell_same}
use Rattle.lr.proofs.Paths.{state_automaton}
use Rattle.lr.proofs.Entering.{entered_below}
use Rattle.lr.proofs.Unique.{count_le, next_same, same, one_right}

-- two numberings of a grammar's states have the same actions and entering symbols
module _ (g : Grammar) {count : ℕ} {next : ℕ → ℕ → ℕ} (st : States g count next) {count' : ℕ} {next' : ℕ → ℕ → ℕ} (st' : States g count' next') where
  pub same_count : count ≡ count'
  same_count = let a : count ≤ count' = count_le g count next st count' next' st' in let b : count' ≤ count = count_le g count' next' st' count next st in omega arith

  walk_same : {γ : List ℕ} → Items.Viable g γ → walk next 0 γ ≡ walk next' 0 γ
  walk_same {γ} v =
      one_right g count next st count' next' st' {q = walk next 0 γ} (same g count next st count' next' st' (suc (walk next 0 γ)) (walk next 0 γ) (omega arith) (st.below v))
      (record { path = γ; viable = v; leads = refl; leads' = refl })

  lookahead_same : {q r m : ℕ} → Lookahead g next q r m → Lookahead g next' q r m
  lookahead_same a = record { path = a.path; leads = sym (walk_same (merged_viable g a.merged)) ∙ a.leads; merged = a.merged }

  pub action_same : {q m v : ℕ} → q < count → Action g next q m v → Action g next' q m v
  action_same {q} {m} h (shifts k nz) = let e : next q m ≡ next' q m = next_same g count next st count' next' st' q m h in rw e (shifts k (rw e at nz))
  action_same h (reduces r k a) = reduces r k (lookahead_same a)
  action_same h (accepts a) = accepts (lookahead_same a)

  pub entered_same : {q x : ℕ} → Entered g next q x → Entered g next' q x
  entered_same (start e) = start e
  entered_same (last γ v e) = last γ v (sym (walk_same v) ∙ e)

-- the sizes of a table
module _ (g : Grammar) (f : Formed g) (count : ℕ) (next : ℕ → ℕ → ℕ) (l : List ℕ) (t : Table g count next l) where
  pub width_is : layout.width l ≡ g.terminals + g.nonterminals
  unfolding layout.width
  width_is = rw (t.sizes.1, t.sizes.2)

  wide : 0 < layout.width l
  wide = rw width_is (omega (arith, f.end_marker))

-- no number of a table is above 4096
module _ (g : Grammar) (f : Formed g) (pr : AllProductive g) (productions_few : g.productions ≤ 128) (symbols-few : g.terminals + g.nonterminals ≤ 4096) (short : (r : ℕ) → r < g.productions → length (g.right r) ≤ 4096) (count : ℕ) (few : count ≤ 256)
    (next : ℕ → ℕ → ℕ) (l : List ℕ) (t : Table g count next l) where
  next_few : (q x : ℕ) → q < count → next q x < count
  next_few q x h = (state_automaton g f pr count next t.states).next_below h

  cell_small : (q x : ℕ) → q < count → x < g.terminals + g.nonterminals → layout.cell_of l q x ≤ 4096
  cell_small q x hq hx = go (dec_lt x g.terminals)
    where
      of : {v : ℕ} → Action g next q x v → v ≤ 4096
      of (shifts h nz) = let b = next_few q x hq in omega (arith, b)
      of (reduces r h k) = omega arith
      of (accepts k) = omega arith

      column : {c : ℕ} → Cell g next q x c → Dec (c ≡ 0) → c ≤ 4096
      column h (yes e) = omega arith
      column h (no nz) = of (action_cell g h nz)

      go : Dec (x < g.terminals) → layout.cell_of l q x ≤ 4096
      go (yes h) = column (t.terminals q x hq h) (ℕ_discrete (layout.cell_of l q x) 0)
      go (no n) =
          let e : g.terminals + (x - g.terminals) ≡ x = omega arith in
          let b = next_few q (g.terminals + (x - g.terminals)) hq in
          let c = t.nonterminals q (x - g.terminals) hq (omega arith) in
          subst (λ (y : ℕ). layout.cell_of l q y ≤ 4096) e (omega (arith, b, c))

  pub numbers_small : (i : ℕ) → get_or l i 0 ≤ 4096
  numbers_small =
      let z = t.sizes in
      at_most l 4096 (wide g f count next l t) t.long (omega (arith, z.0)) (omega (arith, z.1)) (omega (arith, z.2)) (omega (arith, z.3))
      (λ r h. (let k : r < g.productions = rw z.3 at h in let e = t.lefts r k in let b = f.left_below r k in omega (arith, e, b)))
      (λ r h. (let k : r < g.productions = rw z.3 at h in let e = t.lengths r k in let b = short r k in omega (arith, e, b)))
      (λ q h. (let b = entered_below g f pr ((t.entered q (layout.entered_of l q) (rw z.0 at h)).0 refl) in omega arith))
      (λ q x hq hx. cell_small q x (rw z.0 at hq) (rw (width_is g f count next l t) at hx))

module _ (g : Grammar) (f : Formed g) (count : ℕ) (next : ℕ → ℕ → ℕ) (l : List ℕ) (t : Table g count next l)
    (next' : ℕ → ℕ → ℕ) (l' : List ℕ) (t' : Table g count next' l') where
  transitions : (q x : ℕ) → q < count → next q x ≡ next' q x
  transitions q x h = next_same g count next t.states count next' t'.states q x h

  terminal_same : (q m : ℕ) → q < count → m < g.terminals → layout.cell_of l q m ≡ layout.cell_of l' q m
  terminal_same q m hq hm = cell_same g (λ v a. action_same g t.states t'.states hq a) (λ v a. action_same g t'.states t.states hq a) (t.terminals q m hq hm) (t'.terminals q m hq hm)

  nonterminal_same : (q x : ℕ) → q < count → x < g.nonterminals → layout.cell_of l q (g.terminals + x) ≡ layout.cell_of l' q (g.terminals + x)
  nonterminal_same q x hq hx = t.nonterminals q x hq hx ∙ transitions q (g.terminals + x) hq ∙ sym (t'.nonterminals q x hq hx)

  symbol_same : (q x : ℕ) → q < count → x < g.terminals + g.nonterminals → layout.cell_of l q x ≡ layout.cell_of l' q x
  symbol_same q x hq hx = go (dec_lt x g.terminals)
    where
      go : Dec (x < g.terminals) → layout.cell_of l q x ≡ layout.cell_of l' q x
      go (yes h) = terminal_same q x hq h
      go (no n) =
          let e : g.terminals + (x - g.terminals) ≡ x = omega arith in
          subst (λ (y : ℕ). layout.cell_of l q y ≡ layout.cell_of l' q y) e (nonterminal_same q (x - g.terminals) hq (omega arith))

  entry_same : (q : ℕ) → q < count → layout.entered_of l q ≡ layout.entered_of l' q
  entry_same q h = sym ((t'.entered q (layout.entered_of l q) h).1 (entered_same g t.states t'.states ((t.entered q (layout.entered_of l q) h).0 refl)))

  pub same_list : l ≡ l'
  same_list =
      let z = t.sizes in
      let z' = t'.sizes in
      one_list l l' (wide g f count next l t) t.long t'.long (z.0 ∙ sym z'.0) (z.1 ∙ sym z'.1) (z.2 ∙ sym z'.2) (z.3 ∙ sym z'.3)
      (λ r h. (let k : r < g.productions = rw z.3 at h in t.lefts r k ∙ sym (t'.lefts r k))) (λ r h. (let k : r < g.productions = rw z.3 at h in t.lengths r k ∙ sym (t'.lengths r k)))
      (λ q h. entry_same q (rw z.0 at h))
      (λ q x hq hx. symbol_same q x (rw z.0 at hq) (rw (width_is g f count next l t) at hx))

pub one_table : (g : Grammar) → Formed g → {count : ℕ} {next : ℕ → ℕ → ℕ} {l : List ℕ} → Table g count next l → {count' : ℕ} {next' : ℕ → ℕ → ℕ} {l' : List ℕ} → Table g count' next' l' → l ≡ l'
one_table g f {count} {next} {l} t {count'} {next'} {l'} t' = go (same_count g t'.states t.states) t'
  where
    go : {n : ℕ} → n ≡ count → Table g n next' l' → l ≡ l'
    go e u = same_list g f count next l t next' l' (rw e at u)
