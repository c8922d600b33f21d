use Rattle.std.proofs.Common.{sym}
use native.Mathlib.Nat.{sub-zero}
use Rattle.machine.proofs.RunLaws.{reduced_full}
use Rattle.steps.proofs.Kept.{reduce_as}
use Rattle.steps.proofs.reduce_empty.Goals as goal

pub returns-then-k-list : goal.returns-then-k-list
returns-then-k-list c =
    reduce_as (record { held = c.requires.0; production = c.requires.1; less = c.requires.0.deep; under_is = rw sub-zero c.requires.0.top_is; free = c.if-k-list.true; more = c.requires.3 })
    c.requires.2 c.reduce_from.ensures

pub returns : goal.returns
returns c = record { next = sym (reduced_full _ _ _ c.if-k-list.false); held = tt }
