-- Its parts are written one behind the other.
use Rattle.decimal.proofs.Written.{wrote_both}
use Rattle.listing.specs.Listing.{line_of}
use Rattle.listing.proofs.line.Goals as goal

pub returns : goal.returns
unfolding line_of
returns c = wrote_both c.word.ensures (wrote_both c.numbers.ensures c.put.ensures)
