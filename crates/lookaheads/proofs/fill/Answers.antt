use Rattle.std.proofs.Common.{arith}
use Rattle.grammar.proofs.CardLaws.{well_formed}
use Rattle.cells.proofs.AreaLaws.{covered_filled}
use Rattle.lookaheads.proofs.RowLaws.{size_fits, outcome_is}
use Rattle.lookaheads.proofs.fill.Goals as goal

pub entries-entered-requires : goal.entries-entered-requires
entries-entered-requires c =
    let l = (well_formed _ c.requires.ordered.formed).limits in
    (omega (arith, c.from.ensures, c.requires.numbered.most), λ q h. omega (arith, c.requires.entering q (omega (arith, c.from.ensures)), l.terminals_to, l.nonterminals_to))

pub close-requires : goal.close-requires
close-requires c =
    let stage = c.requires in (
      omega (arith, (well_formed _ stage.ordered.formed).limits.terminals_from),
      stage.numbered.most,
      size_fits _ _ _ _ _ _ stage stage.ordered,
      omega (arith, stage.table_long, (c.rows-r.ensures _ stage.ordered).long),
    )

pub returns : goal.returns
returns c = record {
  outcome = λ k o. outcome_is _ _ _ _ _ k c.requires o _ _ _ _ (rw c.from.ensures at c.entries-entered.ensures) (c.rows-r.ensures k o) c.close.ensures;
  words = covered_filled _ _ _ (omega (arith, c.requires.words_long)) (c.fill.ensures.after (λ y e. e));
  halves = covered_filled _ _ _ (omega (arith, c.requires.halves_long)) (c.fill-2.ensures.after (λ y e. e));
}
