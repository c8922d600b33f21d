-- One line more.
use Rattle.std.proofs.Common.{◌≡◌, arith}
use Rattle.decimal.proofs.Written.{wrote_none}
use Rattle.pages.specs.Pages.{row_lines}
use Rattle.pages.specs.Parts.{row_from}
use Rattle.pages.proofs.Writing.{each_next, line_at}
use Rattle.pages.proofs.row.Goals as goal

pub loop-i-init : goal.loop-i-init
loop-i-init c = wrote_none _

pub loop-i-preserved : goal.loop-i-preserved
loop-i-preserved c =
    each_next (line_at c.args.t.now c.args.q c.args.from c.args.w) c.loop-i.i c.loop-i.invariant (rw c.count_on.ensures at c.line.ensures)

pub returns : goal.returns
unfolding row_from
returns c =
    let all : row_lines c.args.w ≡ c.loop-i.i = omega (arith, c.row_lines-i-end.ensures) in
    rw all c.loop-i.invariant
