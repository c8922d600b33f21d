use Rattle.std.proofs.Common.{sym, ◌∙◌}
use Rattle.relations.proofs.StateLaws.{part_more, part_end}
use Rattle.relations.proofs.join_predecessors.Goals as goal

pub loop-j-preserved : goal.loop-j-preserved
loop-j-preserved c = part_more _ _ _ _ _ c.loop-j.invariant _ c.loop-j-test.true c.predecessors.ensures

pub returns : goal.returns
returns c = part_end _ c.args.q _ _ _ c.args.x c.loop-j.invariant c.loop-j-test.false c.requires (sym c.entering.ensures ∙ c.if-entering-x.false)
