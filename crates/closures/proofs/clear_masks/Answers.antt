use Rattle.std.proofs.Common.{rules, arith, ◌+◌}
use Rattle.grammar.proofs.CardLaws.{well_formed}
use Rattle.closures.specs.Areas.{masks_at}
use Rattle.closures.proofs.AreaLaws.{added}
use Rattle.closures.proofs.MaskLaws.{clearing_start, clearing_more, cleared}
use Rattle.closures.proofs.clear_masks.Goals as goal

pub loop-x-init : goal.loop-x-init
loop-x-init c =
    let wf = well_formed c.args.c.now c.requires.0 in
    (clearing_start _, omega (arith, wf.limits.terminals_to, wf.limits.nonterminals_to, c.terminals.ensures, c.nonterminals.ensures, c.from.ensures, c.from-2.ensures), c.requires.1)

pub loop-x-preserved : goal.loop-x-preserved
loop-x-preserved c = (
  clearing_more _ _ _ _ _ c.loop-x.invariant.0 (omega arith) c.empty.ensures (rw c.store.ensures (added _ (masks_at + c.loop-x.x) _ (search rules) (omega arith))) c.store.auto.d,
  c.loop-x.invariant.1,
  omega (arith, c.store.auto.d),
)

pub returns : goal.returns
returns c = cleared _ _ _ _ c.loop-x.invariant.0 (omega (arith, c.terminals.ensures, c.nonterminals.ensures, c.from.ensures, c.from-2.ensures))
