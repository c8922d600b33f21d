use Rattle.sets.specs.Bit.{count}
use Rattle.items.specs.Item.{item}
use Rattle.state_sets.specs.Words.{Lowest}
use Rattle.relations.proofs.StateLaws.{Walked}
use Rattle.relations.proofs.predecessors.Given as goal

abbrev pub invariant-loop-q : goal.invariant-loop-q
invariant-loop-q l = Lowest l.left l.q × Walked l.w l.initial.left l.x l.left l.t

abbrev pub decreases-loop-q : goal.decreases-loop-q
decreases-loop-q l = count (item l.left) 256
