-- The first d symbols are joined.
use Rattle.std.proofs.Common.{◌≡◌, ◌+◌, [], ◌∷◌}
use Rattle.sets.specs.Lists.{each}
use Rattle.grammar.specs.Card.{symbol_of, start_of}
use Rattle.nonterminals.specs.Gathering.{join_of}
use Rattle.nonterminals.proofs.right.Given as goal

abbrev pub invariant-loop-d : goal.invariant-loop-d
invariant-loop-d l = l.v ≡ join_of l.c (each l.d (λ i. symbol_of l.c (start_of l.c l.r + i) ∷ []))
