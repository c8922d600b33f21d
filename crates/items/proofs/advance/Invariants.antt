use Rattle.items.proofs.ShiftLaws.{Shifting}
use Rattle.items.proofs.advance.Given as goal

abbrev pub invariant-loop-i : goal.invariant-loop-i
invariant-loop-i l = Shifting l.s l.m l.t l.carry l.i
