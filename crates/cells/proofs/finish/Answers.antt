use Rattle.std.proofs.Common.{arith}
use Rattle.areas.proofs.RowLaws.{row_header}
use Rattle.cells.proofs.AreaLaws.{covered_behind, finished}
use Rattle.cells.proofs.finish.Goals as goal

pub header-requires : goal.header-requires
header-requires c = omega (arith, row_header c.args.c.now c.args.n)

pub returns : goal.returns
returns c =
    let i = rw c.from.ensures at c.insert-end.ensures in
    let zeros = covered_behind c.insert-end.result 32260 c.header.new.t c.fill.new.self (omega arith) (omega arith) (c.fill.ensures.after (λ y e. e)) in
    finished _ _ _ _ _ _ c.requires.0 (omega arith) i.1 c.header.ensures _ _ i.0 c.requires.2 zeros
