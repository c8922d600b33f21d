use Rattle.std.proofs.Common.{◌+◌, arith}
use Rattle.grammar.proofs.CardLaws.{well_formed}
use Rattle.transitions.specs.Places.{lasts_at, productions_at}
use Rattle.occurrences.proofs.StoreLaws.{cleared}
use Rattle.occurrences.proofs.GatherLaws.{gather_start, prepared}
use Rattle.occurrences.proofs.prepare.Goals as goal

pub gather-m-requires : goal.gather-m-requires
gather-m-requires c =
    let clear = cleared c.put_lengths.new.w c.fill.new.self lasts_at productions_at (omega arith) (omega arith) (c.fill.ensures.after (λ y e. e)) in
    (c.requires.0, omega (arith, clear.long), gather_start _ _ _ (well_formed _ c.requires.0).limits.nonterminals_to (λ j h. clear.zero (lasts_at + j) (omega arith) (omega arith)))

pub returns : goal.returns
returns c =
    let clear = cleared c.put_lengths.new.w c.fill.new.self lasts_at productions_at (omega arith) (omega arith) (c.fill.ensures.after (λ y e. e)) in
    prepared _ _ _ _ c.requires.0 c.put_lengths.ensures clear c.gather-m.ensures c.put.ensures
