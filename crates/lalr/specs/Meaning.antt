-- What the maker's answer means, by definition alone: nothing here is computed from the card but the grammar.
use Rattle.std.specs.Prelude.{ℕ, ◌≤◌, ◌<◌}
use Rattle.grammar.specs.Grammar.{Grammar}
use Rattle.grammar.specs.Useful.{Useful, Nonterminal}
use Rattle.lr.specs.States.{States, MoreStates, nonterminal_transitions}
use Rattle.tables.specs.Conflicts.{Conflict, Single}
use Rattle.lr.specs.Cells.{Action}
use Rattle.lalr.specs.Answer.{Answer, made, refused, useless_at, conflict}

module _ (g : Grammar) where
  pub record AllUseful : Type 0 where
    pub each_nonterminal : (x : ℕ) → Nonterminal g x → Useful g x

  -- no refusal up to 12 applies: the numbered states of the grammar
  pub record Sized (count : ℕ) (next : ℕ → ℕ → ℕ) : Type 0 where
    pub useful : AllUseful
    pub states : States g count next
    pub few : count ≤ 256
    pub narrow : nonterminal_transitions g count next ≤ 2048

  -- the answer to a card of this grammar to which none of 1 to 9 applies
  pub data Judged : Answer → Type 0 where
    useless : {x : ℕ} → Nonterminal g x → (Useful g x → ⊥) → ((y : ℕ) → Nonterminal g y → y < x → Useful g y) → Judged (useless_at x)
    many : AllUseful → MoreStates g 256 → Judged (refused 11)
    wide : (count : ℕ) (next : ℕ → ℕ → ℕ) → AllUseful → States g count next → count ≤ 256 → 2048 < nonterminal_transitions g count next → Judged (refused 12)
    clash : (count : ℕ) (next : ℕ → ℕ → ℕ) {q m v w : ℕ} → Sized count next → Conflict (Action g next) count g.terminals q m v w → Judged (conflict q m v w)
    fine : (count : ℕ) (next : ℕ → ℕ → ℕ) → Sized count next → ((q m : ℕ) → q < count → m < g.terminals → Single (Action g next q m)) → Judged made
