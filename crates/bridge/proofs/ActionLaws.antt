-- The numbers that the sets give at a state and a terminal are the definition's actions.
use Prim.Native.Nat.{ℕ}
use mathlib.Core.Path.{◌≡◌, refl, sym, ap, ◌∙◌}
use mathlib.Core.Logic.{◌↔◌, ◌≢◌}
use mathlib.Core.List.{List, [], ◌∷◌}
use lib.ListN.{length, take}
use lib.Seq.{take-length}
use native.Mathlib.Omega.{arith}
use Rattle.grammar.specs.Card.{terminals, productions, right_of, grammar_of}
use Rattle.grammar.proofs.CardLaws.{right_added}
use Rattle.lr.proofs.Canonical.{Canonical, in_core, start_viable}
use Rattle.lr.specs.Items
use Rattle.lr.specs.Items.{walk, Lookahead}
use Rattle.lr.specs.Cells.{Action, Cell}
use Rattle.lr.proofs.ItemLaws.{Origin, added, inner, origin, added_end}
use Rattle.lr.proofs.Automaton.{sits_lookahead, lookahead_sits}
use Rattle.lr.proofs.Paths.{Has}
use Rattle.tables.specs.Conflicts.{Single, Conflict}
use Rattle.cells.specs.Actions.{Act, IsCell}
use Rattle.bridge.specs.Actions.{Acts}
use Rattle.bridge.specs.Premises.{Stated, Followed}
use Rattle.bridge.proofs.Numbering.{card_formed, card_productive, automaton, numbered}
use Rattle.bridge.proofs.FollowLaws.{look_is}

module _ {c : List ℕ} {n : ℕ} {next : ℕ → ℕ → ℕ} (s : Stated c n next) where
  -- the added production is complete in the state behind the start alone, before the end marker

  added_path : {r d : ℕ} {γ : List ℕ} → Origin (grammar_of c) r d γ → r ≡ productions c → γ ≡ take d (right_of c r)
  added_path (added e) _ = refl
  added_path (inner α h k i) e = absurd (omega arith)

  pub accept_is : (q m : ℕ) → Lookahead (grammar_of c) next q (productions c) m ↔ ((m ≡ 0) × (next 0 (terminals c) ≡ q))
  accept_is q m = (
    λ l. (let p = lookahead_sits (grammar_of c) (card_formed s) (card_productive s) n (Has (grammar_of c) next) next (automaton s) l in (
      added_end (grammar_of c) refl p.item,
      sym (ap (walk next 0) (added_path (origin (grammar_of c) p.item) refl ∙ take-length (right_of c (productions c)) ∙ right_added c)) ∙ p.leads,
    )),
    λ t. sits_lookahead (grammar_of c) (record { path = terminals c ∷ []; leads = t.1; item = rw (t.0, ap length (right_added c)) (Canonical.goto Canonical.start (right_added c)) }),
  )

  start_moves : next 0 (terminals c) ≢ 0
  start_moves = (s.states.moved (start_viable (grammar_of c)) (terminals c)).1 (Items.by_item (in_core (Canonical.goto Canonical.start (right_added c))))

module _ {c w : List ℕ} {n k : ℕ} {next : ℕ → ℕ → ℕ} {z : List ℕ} (h : Followed c w n k next z) where
  to : {q m v : ℕ} → Acts c w z k next q m v → Action (grammar_of c) next q m v
  to (Act.shifts a b nz) = Action.shifts b nz
  to {q} {m} (Act.reduces r b l) = Action.reduces r b ((look_is h r b q m).0 l)
  to {q} {m} (Act.accepts a b nz) = Action.accepts ((accept_is h.stated q m).1 (a, b))

  from : {q m v : ℕ} → Action (grammar_of c) next q m v → Acts c w z k next q m v
  from {q} {m} (Action.shifts b nz) = Act.shifts ((numbered h.stated).low q m nz) b nz
  from {q} {m} (Action.reduces r b l) = Act.reduces r b ((look_is h r b q m).1 l)
  from {q} {m} (Action.accepts l) = let t = (accept_is h.stated q m).0 l in Act.accepts t.0 t.1 (rw (← t.1) (start_moves h.stated))

  pub act_is : (q m v : ℕ) → Acts c w z k next q m v ↔ Action (grammar_of c) next q m v
  act_is q m v = (λ a. to a, λ a. from a)

  -- the one action, or 0 where there is none, is what the cell holds
  pub cell_is : (q m v : ℕ) → IsCell (Acts c w z k next q m) v → Cell (grammar_of c) next q m v
  cell_is q m v o = record { holds = λ u nz. (λ e. to (rw e at (o.some (λ z. nz (sym e ∙ z)))), λ a. sym (o.only u (from a))) }

  pub single_is : (q m : ℕ) → Single (Acts c w z k next q m) → Single (Action (grammar_of c) next q m)
  single_is q m l = record { only = λ x y a b. l.only x y (from a) (from b) }

  -- refusal 13
  pub conflict_is : (q m u v : ℕ) → Conflict (Acts c w z k next) n (terminals c) q m u v → Conflict (Action (grammar_of c) next) n (terminals c) q m u v
  conflict_is q m u v x = record {
    state = x.state;
    terminal = x.terminal;
    numbers = record {
      first = to x.numbers.first;
      second = to x.numbers.second;
      lower = x.numbers.lower;
      lowest = λ y a ne. x.numbers.lowest y (from a) ne;
    };
    before = λ p a hp ha b. single_is p a (x.before p a hp ha b);
  }
