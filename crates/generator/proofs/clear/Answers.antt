use Rattle.cells.proofs.AreaLaws.{covered_filled}
use Rattle.generator.proofs.clear.Goals as goal

pub returns : goal.returns
returns c = record {
  table = covered_filled _ _ _ c.requires.table (c.fill.ensures.after (λ y e. e));
  words = covered_filled _ _ _ c.requires.words (c.fill-2.ensures.after (λ y e. e));
  halves = covered_filled _ _ _ c.requires.halves (c.fill-3.ensures.after (λ y e. e));
}
