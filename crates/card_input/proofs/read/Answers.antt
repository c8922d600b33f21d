-- The input was scanned whole from its start, and is all that the reader had.
use Rattle.std.proofs.Common.{rules}
use Rattle.card_input.proofs.Parts.{answered, known}
use Rattle.card_input.proofs.read.Goals as goal

pub returns-clause-came : goal.returns-clause-came
returns-clause-came g c =
    let all = c.in_ok-s.ensures in
    (all.0, answered _ _ _ all.0 (search rules) all.1 _ c.finish.ensures.value c.finish.ensures.within)

pub returns-clause-known : goal.returns-clause-known
returns-clause-known g c =
    let all = c.in_ok-s.ensures in
    known _ all.0 _ all.2 (answered _ _ _ all.0 (search rules) all.1 _ c.finish.ensures.value c.finish.ensures.within)
