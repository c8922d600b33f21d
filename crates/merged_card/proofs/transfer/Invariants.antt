-- After j turns the first j numbers of the part are written.
use mathlib.Core.Path.{◌≡◌}
use mathlib.Core.List.{[], ◌∷◌}
use Rattle.sets.specs.Lists.{each}
use Rattle.merged_card.specs.Writing.{written, number_of}
use Rattle.merged_card.proofs.transfer.Given as goal

abbrev pub invariant-loop-j : goal.invariant-loop-j
invariant-loop-j l = l.out ≡ written l.fn.i (each l.j (λ k. number_of l.c l.t l.p k ∷ [])) l.fn.out
