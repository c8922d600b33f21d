-- The grammar's table by definition means the grammar for the reader: the list with anything behind it, as the maker leaves it in its area.
use Prim.Native.Nat.{ℕ, ◌+◌, ◌-◌, ◌<◌, ◌≤◌}
use mathlib.Core.Path.{◌≡◌, ◌∙◌}
use mathlib.Core.Logic.{◌≢◌, ◌↔◌}
use mathlib.Core.List.{List, ◌++◌}
use lib.ListN.{length-append}
use native.Mathlib.Omega.{arith}
use Rattle.grammar.specs.Grammar.{Grammar, Formed}
use Rattle.lr.proofs.ItemLaws.{AllProductive}
use Rattle.lr.specs.Cells.{Action, Entered, Table}
use Rattle.lr.proofs.CellLaws.{cell_action, action_cell}
use Rattle.lr.proofs.OneTable.{width_is}
use Rattle.tables.specs.Layout.{states, entered_of, cell_of}
use Rattle.tables.proofs.LayoutLaws.{front_states, front_terminals, front_nonterminals, front_productions, front_size, front_left, front_length, front_entered, front_cell}
use Rattle.claim.proofs.Means.{Limits, TableMeans}

module _ (g : Grammar) (f : Formed g) (pr : AllProductive g) (li : Limits g) (count : ℕ) (next : ℕ → ℕ → ℕ) (l : List ℕ) (tb : Table g count next l) (few : count ≤ 256) (pad : List ℕ) where
  states_is : states (l ++ pad) ≡ count
  states_is = front_states l pad tb.long ∙ (tb.sizes).0

  cell_at : (q x : ℕ) → q < count → x < g.terminals + g.nonterminals → cell_of (l ++ pad) q x ≡ cell_of l q x
  cell_at q x h k = front_cell l pad tb.long q x (rw (tb.sizes).0 h) (rw (width_is g f count next l tb) k)

  pub table_means : TableMeans g (l ++ pad)
  table_means =
      record {
        next = next;
        numbered = rw states_is tb.states;
        states_most = rw states_is few;
        terminals_are = front_terminals l pad tb.long ∙ (tb.sizes).1;
        nonterminals_are = front_nonterminals l pad tb.long ∙ (tb.sizes).2;
        productions_are = front_productions l pad tb.long ∙ (tb.sizes).3;
        whole = rw (front_size l pad tb.long, length-append) (omega (arith, tb.long));
        lefts = λ r h. front_left l pad tb.long r (rw (tb.sizes).3 h) ∙ tb.lefts r h;
        lengths = λ r h. front_length l pad tb.long r (rw (tb.sizes).3 h) ∙ tb.lengths r h;
        entered = λ q x h. entered q x (rw states_is at h);
        in_cell = λ {q} {m} h k a. in_cell q m (rw states_is at h) k a;
        from_cell = λ {q} {m} h k z. from_cell q m (rw states_is at h) k z;
        nonterminal_cell = λ {q} {x} h k b. nonterminal_cell q x (rw states_is at h) k b;
      }
    where
      entered : (q x : ℕ) → q < count → (entered_of (l ++ pad) q ≡ x) ↔ Entered g next q x
      entered q x h = rw (front_entered l pad tb.long q (rw (tb.sizes).0 h)) (tb.entered q x h)

      in_cell : (q m : ℕ) {v : ℕ} → q < count → m < g.terminals → Action g next q m v → cell_of (l ++ pad) q m ≡ v
      in_cell q m h k a = cell_at q m h (omega arith) ∙ cell_action g (tb.terminals q m h k) a

      from_cell : (q m : ℕ) → q < count → m < g.terminals → cell_of (l ++ pad) q m ≢ 0 → Action g next q m (cell_of (l ++ pad) q m)
      from_cell q m h k z = rw (cell_at q m h (omega arith)) (action_cell g (tb.terminals q m h k) (λ e. z (cell_at q m h (omega arith) ∙ e)))

      nonterminal_cell : (q x : ℕ) → q < count → g.terminals ≤ x → x < g.terminals + g.nonterminals → cell_of (l ++ pad) q x ≡ next q x
      nonterminal_cell q x h k b =
          let e : g.terminals + (x - g.terminals) ≡ x = omega arith in
          cell_at q x h b ∙ (rw e at (tb.nonterminals q (x - g.terminals) h (omega arith)))
