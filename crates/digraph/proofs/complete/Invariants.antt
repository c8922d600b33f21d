use Rattle.std.proofs.Common.{ℕ, ◌≡◌, ◌≤◌, ◌<◌}
use Rattle.relations.specs.Edge.{Edge}
use Rattle.transitions.specs.Places.{shifts_at}
use Rattle.digraph.specs.Walked.{at}
use Rattle.digraph.specs.Walk.{InvIn, num_in}
use Rattle.digraph.proofs.complete.Given as goal

abbrev pub invariant-loop-x : goal.invariant-loop-x
invariant-loop-x l = record {
  inv : (start : ℕ → ℕ) → InvIn (Edge l.relation l.c l.w l.k) l.k start l.initial.z 0 → InvIn (Edge l.relation l.c l.w l.k) l.k start l.z 0;
  visited : (v : ℕ) → v < l.x → num_in l.z v ≡ 0 → ⊥;
  rest : (i : ℕ) → shifts_at ≤ i → at l.z i ≡ at l.initial.z i;
}
