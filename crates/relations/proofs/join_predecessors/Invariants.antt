use Rattle.relations.proofs.StateLaws.{Part}
use Rattle.relations.proofs.join_predecessors.Given as goal

abbrev pub invariant-loop-j : goal.invariant-loop-j
invariant-loop-j l = Part l.w l.q l.initial.t l.j l.t
