-- Its parts are written one behind the other.
use Rattle.decimal.proofs.Written.{wrote_both}
use Rattle.listing.specs.Listing.{row_of}
use Rattle.listing.proofs.row.Goals as goal

pub returns : goal.returns
unfolding row_of
returns c =
    wrote_both c.word.ensures (wrote_both c.number.ensures (wrote_both c.word-2.ensures (wrote_both c.numbers.ensures c.put.ensures)))
