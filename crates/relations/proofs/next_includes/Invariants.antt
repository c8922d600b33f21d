use Rattle.relations.specs.Walk.{room_of}
use Rattle.relations.specs.declared.Relation.TheVariants as relation
use Rattle.relations.proofs.IncludeLaws.{Reached}
use Rattle.relations.proofs.next_includes.Given as goal

abbrev pub invariant-loop-at : goal.invariant-loop-at
invariant-loop-at l = Reached l.c l.w l.x l.fn.cursor.at l.fn.cursor.set l.at l.set

abbrev pub decreases-loop-at : goal.decreases-loop-at
decreases-loop-at l = room_of relation.Includes l.w l.x l.at l.set
