use Rattle.std.proofs.Common.{arith}
use Rattle.grammar.proofs.CardLaws.{well_formed}
use Rattle.transition_lists.proofs.PassLaws.{cell_at}
use Rattle.transition_lists.proofs.WordLaws.{marked_start, marked_more, marked_end}
use Rattle.transition_lists.proofs.shifts.Goals as goal

pub loop-x-init : goal.loop-x-init
loop-x-init c = marked_start _ _

pub mark-s-requires : goal.mark-s-requires
mark-s-requires c = let l = (well_formed _ c.requires.0).limits.terminals_to in omega arith

pub loop-x-preserved : goal.loop-x-preserved
loop-x-preserved c =
    marked_more _ _ _ _ _ _ (omega arith) (cell_at _ _ _ _ _ _ _ c.requires.1 (omega arith) c.row_at-at.ensures.0 c.at.ensures) c.loop-x.invariant c.mark-s.ensures

pub returns : goal.returns
returns c = let l = (well_formed _ c.requires.0).limits.terminals_from in marked_end _ _ _ _ _ (omega arith) c.loop-x.invariant
