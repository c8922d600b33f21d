-- `sizes_ok` meets its contract.
use Rattle.merged_card.proofs.SizeLaws.{sizes_told}
use Rattle.merged_card.proofs.sizes_ok.Goals as goal

pub returns : goal.returns
returns c = sizes_told _ _ c.sums-s.ensures c.requires
