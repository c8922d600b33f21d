-- A set of nonterminals as one number, and the lowest that is not useful.
use Rattle.std.specs.Prelude.{ℕ, ◌+◌, ◌≤◌, ◌<◌, ◌≡◌, false, Option, Some, None}
use Rattle.sets.specs.Bit.{bit, Tells}
use Rattle.grammar.specs.Grammar.{Grammar}
use Rattle.grammar.specs.Useful.{Nonterminal, LowestUseless}

-- w is the set of the nonterminals with P, bit j for nonterminal T + j
pub record NonterminalSet (g : Grammar) (P : ℕ → Type 0) (w : ℕ) : Type 0 where
  pub tells : (j : ℕ) → j < g.nonterminals → Tells (bit w j) (P (g.terminals + j))
  pub above : (j : ℕ) → g.nonterminals ≤ j → bit w j ≡ false

-- the lowest nonterminal that is not useful, or that all are
abbrev pub FoundUseless : Grammar → Option ℕ → Type 0
FoundUseless g (Some x) = Nonterminal g x × LowestUseless g x
FoundUseless g None = LowestUseless g (g.terminals + g.nonterminals)
