use Rattle.std.proofs.Common.{◌≡◌, length}
use Rattle.grammar.specs.Card.{start_of}
use Rattle.lookaheads.specs.Joins.{Keyed}
use Rattle.lookaheads.proofs.keys.Given as goal

abbrev pub invariant-loop-r : goal.invariant-loop-r
invariant-loop-r l = (length l.s ≡ 512) × (l.b ≡ start_of l.c l.r) × Keyed l.c l.s l.r
