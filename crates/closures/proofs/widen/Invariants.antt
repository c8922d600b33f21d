use Rattle.std.proofs.Common.{◌≡◌, get_or}
use Rattle.closures.specs.Areas.{Widened}
use Rattle.closures.proofs.widen.Given as goal

abbrev pub invariant-loop-i : goal.invariant-loop-i
invariant-loop-i l = Widened l.initial.t l.i l.k l.t × (l.word ≡ get_or l.initial.t l.k 0)
