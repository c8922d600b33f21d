-- The table of a card is the table of the definition, number for number, and there is only one.
use mathlib.Core.Path.{◌≡◌, refl, sym, ap, ◌∙◌}
use mathlib.Core.Logic.{◌≢◌}
use mathlib.Core.Bool.{Bool, true, false, cond}
use mathlib.Core.List.{List, [], ◌∷◌, ◌++◌}
use Prim.Native.Nat.{ℕ, zero, suc, ◌+◌, ◌*◌, ◌-◌, ◌≤◌, ◌<◌}
use native.Mathlib.Omega.{arith}
use native.Mathlib.Nat.{mul-one}
use lib.ListN.{length, get_or, drop, length-append, length-drop, get_or-append}
use lib.Seq.{get_or-append-add, get_or-drop}
use lib.Dec.{ltb}
use borrow.Author.Tests.{ltb-false, lt-ltb, le-ltb}
use Rattle.grammar.specs.Grammar.{Grammar, Formed}
use Rattle.lr.proofs.ItemLaws.{AllProductive}
use Rattle.lr.proofs.Automaton.{Automaton}
use Rattle.sets.specs.Lists.{each}
use Rattle.lr.specs.States.{nonterminal_transitions}
use Rattle.lr.specs.Cells.{Action, Cell, Table}
use Rattle.grammar.specs.Card.{form_fault, grammar_of, left_of, length_of, terminals, nonterminals, productions}
use Rattle.lalr.specs.ComputedNonterminals.{useless_nonterminal}
use Rattle.lalr.specs.ComputedStates
use Rattle.lalr.specs.ComputedStates.{states, facts, cell, entering}
use Rattle.lalr.specs.Answer.{made, refused, useless_at}
use Rattle.lalr.specs.ComputedAnswer.{conflict_of, judge, grammar_answer, card_answer, table_of}
use Rattle.lalr.proofs.StateLaws
use Rattle.lalr.proofs.CellLaws.{conflict_search, Short, cell_action, action_cell, no_conflict}
use Rattle.lalr.proofs.UsefulLaws.{none_useless}
use Rattle.grammar.proofs.CardLaws.{WellFormed, well_formed, formed, right_length}
use Rattle.tables.proofs.LayoutLaws.{built_sizes, built_long, built_left, built_length, built_entered, built_cell}
use Rattle.lalr.proofs.Judge.{holds, built, built_states, acts}
use Rattle.lalr.proofs.EnteringLaws.{entering_is}

-- the answer of a card is `made`: no test refuses it
pub record Made (c : List ℕ) : Type 0 where
  pub fault : form_fault c ≡ 0
  pub useful : terminals c + nonterminals c ≤ useless_nonterminal (grammar_of c)
  pub few : length (states (grammar_of c)).rows ≤ 256
  pub narrow : nonterminal_transitions (grammar_of c) (length (states (grammar_of c)).rows) (ComputedStates.goes (grammar_of c) (states (grammar_of c)).rows) ≤ 2048
  pub clear : conflict_of (grammar_of c) (states (grammar_of c)).rows ≡ made

refused_not : {n : ℕ} → refused n ≡ made → ⊥
refused_not e = let z : ◌≡◌ {A = ℕ} 0 1 = cc in omega arith

useless_not : {n : ℕ} → useless_at n ≡ made → ⊥
useless_not e = let z : ◌≡◌ {A = ℕ} 0 1 = cc in omega arith

pub made_of : (c : List ℕ) → card_answer c ≡ made → Made c
made_of c h = go₁ (form_fault c) refl
  where
    g : Grammar
    g = grammar_of c

    go₄ : (b : Bool) → form_fault c ≡ 0 → ltb (useless_nonterminal (grammar_of c)) (terminals c + nonterminals c) ≡ false → ltb 256 (length (states (grammar_of c)).rows) ≡ false → ltb 2048 (nonterminal_transitions (grammar_of c) (length (states (grammar_of c)).rows) (ComputedStates.goes (grammar_of c) (states (grammar_of c)).rows)) ≡ b → Made c
    go₄ true e₁ e₂ e₃ e₄ = absurd (refused_not (rw (e₁, card_answer, grammar_answer, e₂, judge, e₃, e₄) at h))
    go₄ false e₁ e₂ e₃ e₄ = record { fault = e₁; useful = ltb-false (useless_nonterminal (grammar_of c)) (terminals c + nonterminals c) e₂; few = ltb-false 256 (length (states (grammar_of c)).rows) e₃; narrow = ltb-false 2048 (nonterminal_transitions (grammar_of c) (length (states (grammar_of c)).rows) (ComputedStates.goes (grammar_of c) (states (grammar_of c)).rows)) e₄; clear = rw (e₁, card_answer, grammar_answer, e₂, judge, e₃, e₄) at h }

    go₃ : (b : Bool) → form_fault c ≡ 0 → ltb (useless_nonterminal (grammar_of c)) (terminals c + nonterminals c) ≡ false → ltb 256 (length (states (grammar_of c)).rows) ≡ b → Made c
    go₃ true e₁ e₂ e₃ = absurd (refused_not (rw (e₁, card_answer, grammar_answer, e₂, judge, e₃) at h))
    go₃ false e₁ e₂ e₃ = go₄ (ltb 2048 (nonterminal_transitions (grammar_of c) (length (states (grammar_of c)).rows) (ComputedStates.goes (grammar_of c) (states (grammar_of c)).rows))) e₁ e₂ e₃ refl

    go₂ : (b : Bool) → form_fault c ≡ 0 → ltb (useless_nonterminal (grammar_of c)) (terminals c + nonterminals c) ≡ b → Made c
    go₂ true e₁ e₂ = absurd (useless_not (rw (e₁, card_answer, grammar_answer, e₂) at h))
    go₂ false e₁ e₂ = go₃ (ltb 256 (length (states (grammar_of c)).rows)) e₁ e₂ refl

    go₁ : (n : ℕ) → form_fault c ≡ n → Made c
    go₁ (suc n) e = absurd (refused_not (rw (e, card_answer) at h))
    go₁ zero e = go₂ (ltb (useless_nonterminal (grammar_of c)) (terminals c + nonterminals c)) e refl

-- the cell of a list of at most one action
module _ (g : Grammar) (f : Formed g) (pr : AllProductive g) (productions_few : g.productions ≤ 128) (few : length (states g).rows ≤ 256) where
  abbrev rows : List (List ℕ)
  rows = (states g).rows

  abbrev next : ℕ → ℕ → ℕ
  next q x = ComputedStates.goes g rows q x

  abbrev au : Automaton g (length rows) (holds g f) next
  au = built g f pr few

  module _ (q m : ℕ) (hm : m < g.terminals) (s : Short (acts g f q m)) where
    abbrev c : ℕ
    c = cell (acts g f q m)

    of_cell : (v : ℕ) → v ≢ 0 → c ≡ v → Action g next q m v
    of_cell v nz e = rw e at (cell_action g f pr rows (holds g f) au few productions_few q m hm (λ z. nz (sym e ∙ z)))

    pub cell_is : Cell g next q m c
    cell_is = record { holds = λ v nz. (λ e. of_cell v nz e, λ a. action_cell g f pr rows (holds g f) au few productions_few q m v s a) }

module _ (c : List ℕ) (mk : Made c) where
  abbrev pub g : Grammar
  g = grammar_of c

  pub the_form : WellFormed c
  the_form = well_formed c mk.fault

  pub the_formed : Formed g
  the_formed = formed c the_form

  pub the_productive : AllProductive g
  the_productive = none_useless g the_formed mk.useful

  abbrev pub transitions : ℕ → ℕ → ℕ
  transitions q x = ComputedStates.goes g (states g).rows q x

  abbrev pub count : ℕ
  count = length (states g).rows

  productions_few : productions c ≤ 128
  productions_few = the_form.limits.productions_to

  short : (q m : ℕ) → q < count → m < g.terminals → Short (acts g the_formed q m)
  short q m hq hm =
      let a = built g the_formed the_productive mk.few in
      no_conflict g the_formed the_productive (states g).rows (holds g the_formed) a mk.few productions_few (rw mk.clear at (conflict_search g the_formed the_productive (states g).rows (holds g the_formed) a mk.few productions_few)) q m hq hm

  abbrev column : ℕ → ℕ → ℕ
  column q x = cond (ltb x (terminals c)) (cell (acts g the_formed q x)) (transitions q x)

  terminal_cell : (q m : ℕ) → m < terminals c → column q m ≡ cell (acts g the_formed q m)
  terminal_cell q m h = rw (lt-ltb m (terminals c) h)

  nonterminal_cell : (q x : ℕ) → terminals c ≤ x → column q x ≡ transitions q x
  nonterminal_cell q x h = rw (le-ltb x (terminals c) h)

  abbrev entries : ℕ → ℕ
  entries q = entering g (states g).rows q

  -- the table
  pub table_is : Table g count transitions (table_of c)
  unfolding table_of
  table_is =
      let numbered = built_states g the_formed the_productive mk.few in
      record {
        states = numbered;
        sizes = built_sizes count (terminals c) (nonterminals c) (productions c) (left_of c) (length_of c) entries column;
        long = built_long count (terminals c) (nonterminals c) (productions c) (left_of c) (length_of c) entries column;
        lefts = λ r h. built_left count (terminals c) (nonterminals c) (productions c) (left_of c) (length_of c) entries column r h;
        lengths = λ r h. built_length count (terminals c) (nonterminals c) (productions c) (left_of c) (length_of c) entries column r h ∙ sym (right_length c r h);
        entered = λ q x h.
            rw (built_entered count (terminals c) (nonterminals c) (productions c) (left_of c) (length_of c) entries column q h)
            (entering_is g the_formed the_productive (states g).rows numbered q x h);
        terminals = λ q m hq hm.
            rw (built_cell count (terminals c) (nonterminals c) (productions c) (left_of c) (length_of c) entries column q m hq (omega arith) ∙ terminal_cell q m hm)
            (cell_is g the_formed the_productive productions_few mk.few q m hm (short q m hq hm));
        nonterminals = λ q x hq hx.
            built_cell count (terminals c) (nonterminals c) (productions c) (left_of c) (length_of c) entries column q (terminals c + x) hq (omega arith) ∙ nonterminal_cell q (terminals c + x) (omega arith);
      }
