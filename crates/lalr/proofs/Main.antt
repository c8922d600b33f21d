-- The statements, of every card: what is computed is what the definitions say. Nothing is assumed but what stands before the arrows.
use mathlib.Core.Path.{◌≡◌, refl, sym, ap, ◌∙◌}
use mathlib.Core.Logic.{◌↔◌, ◌≢◌}
use mathlib.Core.Bool.{true}
use mathlib.Core.List.{List, [], ◌∷◌}
use Prim.Native.Nat.{ℕ, ◌+◌, ◌*◌, ◌≤◌, ◌<◌}
use native.Mathlib.Omega.{arith}
use native.Mathlib.Decide.{dec_lt}
use native.Mathlib.Nat.{mul-le-mul}
use lib.ListN.{length, get_or, get_or-eq_default}
use Rattle.sets.specs.Bit.{bit}
use Rattle.grammar.specs.Grammar.{Formed, Symbols, Derives}
use Rattle.grammar.specs.Useful.{Useful, Nonterminal, Productive, Reachable}
use Rattle.grammar.specs.Card.{form_fault, grammar_of, terminals, nonterminals, productions}
use Rattle.grammar.proofs.Derive.{derives_yields}
use Rattle.grammar.proofs.CardLaws.{WellFormed, well_formed, formed, right_short}
use Rattle.tables.specs.Layout as layout
use Rattle.tables.specs.Layout.{cell_of}
use Rattle.areas.specs.Areas.{table_size}
use Rattle.lr.specs.Items
use Rattle.lr.specs.Items.{walk, Lookahead}
use Rattle.lr.specs.Sets.{First}
use Rattle.lr.specs.States.{States}
use Rattle.lr.specs.Cells.{Table}
use Rattle.lr.specs.Relations.{LA}
use Rattle.lr.proofs.Firsts.{first_yields}
use Rattle.lr.proofs.ItemLaws.{AllProductive, all_productive}
use Rattle.lr.proofs.Paths.{merged_exact, state_automaton}
use Rattle.lr.proofs.CellLaws.{cell_reduces}
use Rattle.lr.proofs.OneTable.{one_table, numbers_small, width_is}
use Rattle.lr.proofs.ShortWay
use Rattle.lalr.specs.ComputedNonterminals.{nullables, productive, reachable, firsts, in_first}
use Rattle.lalr.specs.ComputedStates
use Rattle.lalr.specs.ComputedStates.{states}
use Rattle.lalr.specs.Answer.{Answer, made}
use Rattle.lalr.specs.ComputedAnswer.{grammar_answer, card_answer, table_of}
use Rattle.lalr.specs.Meaning.{Judged, AllUseful}
use Rattle.lalr.proofs.NonterminalLaws.{nullables_exact, productive_exact}
use Rattle.lalr.proofs.UsefulLaws
use Rattle.lalr.proofs.FirstLaws.{in_sound, in_all}
use Rattle.lalr.proofs.Judge
use Rattle.lalr.proofs.TableLaws.{Made, made_of, table_is, the_form, the_formed, the_productive}

-- a card to which none of 4 to 9 applies
module _ (c : List ℕ) (h : form_fault c ≡ 0) where
  f : Formed (grammar_of c)
  f = formed c (well_formed c h)

  -- the answer is the one of the definition, and no other is
  pub card_answer_is : (a : Answer) → (card_answer c ≡ a) ↔ Judged (grammar_of c) a
  card_answer_is a = let t = Judge.answer_exact c h a in let e : card_answer c ≡ grammar_answer (grammar_of c) = rw (h, card_answer) refl in (λ k. t.0 (sym e ∙ k), λ j. e ∙ t.1 j)

  -- the sets of symbols
  pub nullable_is : (x : ℕ) → (bit (nullables (grammar_of c)) x ≡ true) ↔ Derives (grammar_of c) (x ∷ []) []
  nullable_is x = nullables_exact (grammar_of c) f x

  pub productive_is : (x : ℕ) → (bit (productive (grammar_of c)) x ≡ true) ↔ Productive (grammar_of c) x
  productive_is x = productive_exact (grammar_of c) f x

  pub reachable_is : (x : ℕ) → (bit (reachable (grammar_of c)) x ≡ true) ↔ Reachable (grammar_of c) x
  reachable_is x = UsefulLaws.reachable_exact (grammar_of c) f x

  -- and past refusal 10
  module _ (useful : AllUseful (grammar_of c)) where
    made_all : AllProductive (grammar_of c)
    made_all = all_productive (grammar_of c) (λ x n. (useful.each_nonterminal x n).productive)

    pub first_is : (β : List ℕ) (a b : ℕ) → Symbols (terminals c + nonterminals c) β → b < terminals c → (in_first (grammar_of c) (nullables (grammar_of c)) (firsts (grammar_of c)) β a b ≡ true) ↔ First (grammar_of c) β a b
    first_is β a b s k = (in_sound (grammar_of c) f made_all a b k s, λ i. in_all (grammar_of c) f made_all a b k β (first_yields (grammar_of c) i))

    module _ (few : length (states (grammar_of c)).rows ≤ 256) where
      abbrev next : ℕ → ℕ → ℕ
      next q x = ComputedStates.goes (grammar_of c) (states (grammar_of c)).rows q x

      -- the numbered states are the cores of the canonical sets, each once, in the paper's order
      pub states_are : States (grammar_of c) (length (states (grammar_of c)).rows) (ComputedStates.goes (grammar_of c) (states (grammar_of c)).rows)
      states_are = Judge.built_states (grammar_of c) f made_all few

      inside : (q x : ℕ) → next q x ≢ 0 → q < length (states (grammar_of c)).rows
      inside q x nz = go (dec_lt q (length (states (grammar_of c)).rows))
        where
          go : Dec (q < length (states (grammar_of c)).rows) → q < length (states (grammar_of c)).rows
          go (yes h) = h
          go (no n) = absurd (nz (ap (λ (r : List ℕ). get_or r x 0) (get_or-eq_default (states (grammar_of c)).rows [] {n = q} (omega arith))))

      -- the short way of 001 gives the lookaheads of the merged sets
      pub short_way : (q s m : ℕ) → s < productions c
          → Lookahead (grammar_of c) (ComputedStates.goes (grammar_of c) (states (grammar_of c)).rows) q s m ↔ LA (grammar_of c) (ComputedStates.goes (grammar_of c) (states (grammar_of c)).rows) q s m
      short_way q s m k = ShortWay.short_way (grammar_of c) f made_all (length (states (grammar_of c)).rows) next states_are inside q s m k

-- a card that gets a table
module _ (c : List ℕ) (m : card_answer c ≡ made) where
  mk : Made c
  mk = made_of c m

  productions_few : productions c ≤ 128
  productions_few = (the_form c mk).limits.productions_to

  -- the table is the definition's, and no other list is
  pub card_table : Table (grammar_of c) (length (states (grammar_of c)).rows) (ComputedStates.goes (grammar_of c) (states (grammar_of c)).rows) (table_of c)
  card_table = table_is c mk

  pub only_table : (l : List ℕ) {count : ℕ} {next : ℕ → ℕ → ℕ} → Table (grammar_of c) count next l → table_of c ≡ l
  only_table l t = one_table (grammar_of c) (the_formed c mk) card_table t

  -- it fits its area
  pub table_fits : length (table_of c) ≤ table_size
  unfolding layout.size_of
  table_fits =
      let l = (the_form c mk).limits in
      let z = card_table.sizes in
      let w : layout.width (table_of c) ≤ 124 = omega (arith, width_is (grammar_of c) (the_formed c mk) (length (states (grammar_of c)).rows) (ComputedStates.goes (grammar_of c) (states (grammar_of c)).rows) (table_of c) card_table, l.terminals_to, l.nonterminals_to) in
      let n : layout.states (table_of c) ≤ 256 = omega (arith, z.0, mk.few) in
      let p : layout.states (table_of c) * layout.width (table_of c) ≤ 256 * 124 = mul-le-mul n w in
      omega (arith, card_table.long, z.3, productions_few)

  -- and its numbers fit their places
  pub table_words : (i : ℕ) → get_or (table_of c) i 0 ≤ 4096
  table_words =
      let l = (the_form c mk).limits in
      numbers_small (grammar_of c) (the_formed c mk) (the_productive c mk) productions_few (omega (arith, l.terminals_to, l.nonterminals_to)) (λ r h. (let s = right_short c (the_form c mk) r h in omega arith))
      (length (states (grammar_of c)).rows) mk.few (ComputedStates.goes (grammar_of c) (states (grammar_of c)).rows) (table_of c) card_table

  -- the reductions, in the words of merging by core
  pub card_reduce : (γ : List ℕ) (r a : ℕ) → Items.Viable (grammar_of c) γ → r < productions c → a < terminals c
      → (cell_of (table_of c) (walk (ComputedStates.goes (grammar_of c) (states (grammar_of c)).rows) 0 γ) a ≡ layout.reduction r) ↔ Items.Merged (grammar_of c) γ r (length ((grammar_of c).right r)) a
  card_reduce γ r a v h k =
      let next : ℕ → ℕ → ℕ = ComputedStates.goes (grammar_of c) (states (grammar_of c)).rows in
      let low : next (walk next 0 γ) a < 1024 = omega (arith, (state_automaton (grammar_of c) (the_formed c mk) (the_productive c mk) (length (states (grammar_of c)).rows) next card_table.states).next_below {x = a} (card_table.states.below v), mk.few) in
      let t = cell_reduces (grammar_of c) productions_few low (card_table.terminals (walk next 0 γ) a (card_table.states.below v) k) h in
      let u = merged_exact (grammar_of c) (the_formed c mk) (the_productive c mk) (length (states (grammar_of c)).rows) next card_table.states v in
      (λ e. u.0 (t.0 e), λ b. t.1 (u.1 b))
