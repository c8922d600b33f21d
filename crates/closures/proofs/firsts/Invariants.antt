use Rattle.std.proofs.Common.{◌≡◌}
use Rattle.closures.specs.Numbers.{first_of}
use Rattle.closures.specs.Areas.{Firsts}
use Rattle.closures.proofs.firsts.Given as goal

abbrev pub invariant-loop-r : goal.invariant-loop-r
invariant-loop-r l = Firsts l.c l.b l.r l.s × (l.f ≡ first_of l.c l.r)
