-- Both sizes are of 16 bits.
use Rattle.std.proofs.Common.{arith}
use Rattle.tables.specs.Layout.{terminals, nonterminals, width}
use Rattle.listing.proofs.row_width.Goals as goal

pub returns : goal.returns
unfolding terminals nonterminals width
returns c = (omega (arith, c.at.ensures.0, c.at-2.ensures.0), omega (arith, c.at.ensures.1, c.at-2.ensures.1))
