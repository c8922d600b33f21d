use Rattle.std.proofs.Common.{arith}
use Rattle.tables.proofs.Places.{terminals_le}
use Rattle.cell_checks.proofs.PartLaws.{in_range, sizes_are}
use Rattle.cell_checks.proofs.sizes_ok.Goals as goal

pub overflow_sub-z : goal.overflow_sub-z
overflow_sub-z c = omega (arith, terminals_le c.requires)

pub returns : goal.returns
returns c =
    let q = c.new.ensures in
    let m = c.new-2.ensures in
    let n = c.new-3.ensures in
    let p = c.new-4.ensures in
    sizes_are c.requires
    (in_range _ q.start q.end q.exhausted c.contains-q.ensures.value)
    (in_range _ m.start m.end m.exhausted c.contains-m.ensures.value)
    (in_range _ n.start n.end n.exhausted c.contains-n.ensures.value)
    (in_range _ p.start p.end p.exhausted c.contains-p.ensures.value)
