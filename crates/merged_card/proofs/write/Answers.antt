-- `write` meets its contract: the sizes are written, then each array behind what stands there.
use Rattle.merged_card.proofs.WholeLaws.{lefts_asked, lengths_asked, symbols_asked, whole_written}
use Rattle.merged_card.proofs.write.Goals as goal

pub array-i-requires : goal.array-i-requires
array-i-requires c = lefts_asked _ _ c.terminals-t.ensures c.args.out.now c.requires c.header.ensures c.lefts.ensures

pub array-j-requires : goal.array-j-requires
array-j-requires c = lengths_asked _ _ c.terminals-t.ensures c.args.out.now c.requires c.header.ensures c.lefts.ensures c.array-i.ensures c.lengths.ensures

pub array-requires : goal.array-requires
array-requires c =
    symbols_asked _ _ c.terminals-t.ensures c.args.out.now c.requires c.header.ensures c.lefts.ensures c.array-i.ensures c.lengths.ensures c.array-j.ensures c.rights.ensures

pub returns : goal.returns
returns c =
    whole_written _ _ c.terminals-t.ensures c.args.out.now c.requires c.header.ensures c.lefts.ensures c.array-i.ensures c.lengths.ensures c.array-j.ensures c.rights.ensures c.array.ensures.1
