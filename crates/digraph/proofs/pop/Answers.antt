use Rattle.std.proofs.Common.{◌≤◌, length, refl, arith}
use Rattle.areas.specs.Areas.{words_size}
use Rattle.digraph.proofs.Steps as steps
use Rattle.digraph.proofs.pop.Goals as goal

pub loop-p-preserved : goal.loop-p-preserved
loop-p-preserved c =
    let a = c.args in
    let l = c.loop-p in
    let long : words_size ≤ length l.z = omega arith in
    (omega arith, steps.pop_more a.k l.p a.depth a.s a.z.now l.z c.requires.4 l.invariant.1 (omega arith) (omega arith) c.requires.2 long _ refl c.settle.new.z c.settle.ensures)
