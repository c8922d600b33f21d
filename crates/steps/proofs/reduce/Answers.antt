use Rattle.std.proofs.Common.{sym, refl}
use Rattle.machine.specs.ComputedRun.{top_of}
use Rattle.machine.proofs.RunLaws.{reduced_broken, reduced_full}
use Rattle.steps.proofs.Kept.{reduce_as}
use Rattle.steps.proofs.reduce.Goals as goal

pub reduce_from-requires : goal.reduce_from-requires
unfolding top_of
reduce_from-requires c =
    record { held = c.requires.0; production = c.requires.1; less = c.if-n-s.true; under_is = refl; free = c.if-s-list.true; more = c.requires.3 }

pub returns-then-n-s : goal.returns-then-n-s
unfolding top_of
returns-then-n-s c =
    reduce_as (record { held = c.requires.0; production = c.requires.1; less = c.if-n-s.true; under_is = refl; free = c.if-s-list.true; more = c.requires.3 })
    c.requires.2 c.reduce_from.ensures

pub returns-else-n-s : goal.returns-else-n-s
returns-else-n-s c = record { next = sym (reduced_broken _ _ _ c.if-s-list.true (rw c.requires.2 c.if-n-s.false)); held = tt }

pub returns-else-s-list : goal.returns-else-s-list
returns-else-s-list c = record { next = sym (reduced_full _ _ _ c.if-s-list.false); held = tt }
