-- What the walks need of the numbered states of a card.
use Prim.Native.Nat.{ℕ, suc, ◌+◌, ◌<◌}
use mathlib.Core.Path.{◌≡◌, refl, sym, ap, ◌∙◌}
use mathlib.Core.Logic.{◌≢◌}
use mathlib.Core.List.{List, [], ◌∷◌, ◌++◌}
use lib.ListN.{get_or}
use native.Mathlib.Omega.{arith}
use native.Mathlib.Decide.{ℕ_discrete}
use Rattle.grammar.specs.Grammar.{Grammar, Formed}
use Rattle.grammar.specs.Card.{terminals, nonterminals, grammar_of}
use Rattle.grammar.proofs.CardLaws.{well_formed, formed}
use Rattle.lr.proofs.Canonical.{Canonical, in_core, by_path}
use Rattle.lr.specs.Items
use Rattle.lr.specs.Items.{walk}
use Rattle.lr.proofs.Runs
use Rattle.lr.proofs.ItemLaws.{AllProductive, all_productive, snoc_last, not_snoc, after_positive}
use Rattle.lr.proofs.Automaton.{Automaton, walk_snoc}
use Rattle.lr.proofs.Paths.{Has, symbol_below, state_automaton}
use Rattle.lr.specs.Cells.{Entered}
use Rattle.lr.proofs.Entering.{move_enters, one_entered}
use Rattle.lr.proofs.RelationLaws.{went}
use Rattle.transitions.specs.Next.{Numbered}
use Rattle.bridge.specs.Premises.{Stated}

module _ {c : List ℕ} {n : ℕ} {next : ℕ → ℕ → ℕ} (s : Stated c n next) where
  pub card_formed : Formed (grammar_of c)
  card_formed = formed c (well_formed c s.formed)

  pub card_productive : AllProductive (grammar_of c)
  card_productive = all_productive (grammar_of c) s.productive

  pub automaton : Automaton (grammar_of c) n (Has (grammar_of c) next) next
  automaton = state_automaton (grammar_of c) card_formed card_productive n next s.states

  -- a transition has a path to its state, and an item with the dot before its symbol
  behind : (p x : ℕ) → next p x ≢ 0 → (γ : List ℕ) × Items.Viable (grammar_of c) γ × (walk next 0 γ ≡ p) × Runs.After (grammar_of c) γ x
  behind p x nz =
      let t = s.states.every p (s.inside p x nz) in
      (t.0, t.1, t.2, went (grammar_of c) card_formed card_productive n (Has (grammar_of c) next) next automaton t.1 (rw t.2 nz))

  after_below : {γ : List ℕ} {x : ℕ} → Runs.After (grammar_of c) γ x → x < terminals c + nonterminals c
  after_below (Runs.dot_before (Items.with_lookahead _ i) e) = symbol_below (grammar_of c) card_formed card_productive (by_path i) e

  next_below : (p x : ℕ) → next p x < n
  next_below p x = go (ℕ_discrete (next p x) 0)
    where
      go : Dec (next p x ≡ 0) → next p x < n
      go (yes e) = rw e automaton.some_state
      go (no nz) = automaton.next_below (s.inside p x nz)

  entered_by_one : (p x q y : ℕ) → next p x ≢ 0 → next p x ≡ next q y → x ≡ y
  entered_by_one p x q y nz e = one_entered (grammar_of c) s.states (enters p x nz) (rw (← e) at (enters q y (rw (← e) nz)))
    where
      enters : (p x : ℕ) → next p x ≢ 0 → Entered (grammar_of c) next (next p x) x
      enters p x z = move_enters (grammar_of c) s.states p x (s.inside p x z) z

  pub numbered : Numbered c n next
  numbered = record {
    some = automaton.some_state;
    most = s.most;
    from = s.inside;
    target = next_below;
    low = λ p x nz. after_positive (grammar_of c) card_formed card_productive (behind p x nz).3;
    high = λ p x nz. after_below (behind p x nz).3;
    one = entered_by_one;
  }
