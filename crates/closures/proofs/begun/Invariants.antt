use Rattle.std.proofs.Common.{◌≡◌}
use Rattle.closures.specs.Numbers.{first_of}
use Rattle.closures.specs.Areas.{Begun}
use Rattle.closures.proofs.begun.Given as goal

abbrev pub invariant-loop-r : goal.invariant-loop-r
invariant-loop-r l = Begun l.c l.b l.r × (l.f ≡ first_of l.c l.r)
