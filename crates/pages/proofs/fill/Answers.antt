use Rattle.std.proofs.Common.{[]}
use Rattle.decimal.proofs.Written.{wrote_none}
use Rattle.pages.specs.Pages.{page_line}
use Rattle.pages.proofs.Writing.{each_next, blank_line}
use Rattle.pages.proofs.fill.Goals as goal

pub loop-i-init : goal.loop-i-init
loop-i-init c = wrote_none _

pub loop-i-preserved : goal.loop-i-preserved
loop-i-preserved c = each_next (λ k. page_line []) c.loop-i._i c.loop-i.invariant (rw blank_line c.end_line.ensures)
