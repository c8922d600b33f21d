use Rattle.std.proofs.Common.{arith}
use Rattle.grammar.proofs.CardLaws.{well_formed}
use Rattle.transitions.specs.Places.{entering_at, starts_at}
use Rattle.occurrences.proofs.StoreLaws.{cleared}
use Rattle.transition_lists.proofs.PassLaws.{start}
use Rattle.transition_lists.proofs.DataLaws.{built}
use Rattle.transition_lists.proofs.build.Goals as goal

pub rows-k-requires : goal.rows-k-requires
rows-k-requires c =
    let clear = cleared c.prepare.new.w c.fill.new.self entering_at starts_at (omega arith) (omega (arith, c.prepare.ensures.long)) (c.fill.ensures.after (λ y e. e)) in
    (c.requires.0, c.requires.1, omega (arith, clear.long, c.prepare.ensures.long), start _ _ _ (well_formed _ c.requires.0).limits.terminals_from c.requires.1 _ _ clear)

pub returns : goal.returns
returns c =
    let clear = cleared c.prepare.new.w c.fill.new.self entering_at starts_at (omega arith) (omega (arith, c.prepare.ensures.long)) (c.fill.ensures.after (λ y e. e)) in
    let some = (well_formed _ c.requires.0).limits.terminals_from in
    built _ _ _ c.requires.1 some c.requires.0 _ _ _ _ _ _ _ c.prepare.ensures clear c.rows-k.ensures (c.close.ensures _ _ c.requires.1 some c.rows-k.ensures.passed)
