use Rattle.std.proofs.Common.{arith}
use native.Mathlib.Nat.{le_refl}
use Rattle.grammar.proofs.CardLaws.{well_formed}
use Rattle.closures.specs.Areas.{slots_end}
use Rattle.closures.proofs.AreaLaws.{kept_same, kept_then}
use Rattle.closures.proofs.MaskLaws.{prepared_closures}
use Rattle.closures.proofs.prepare.Goals as goal

pub returns : goal.returns
returns c =
    let wf = well_formed c.args.c.now c.requires.0 in (
      record {
        closures = prepared_closures _ _ _ _ wf.limits.nonterminals_to c.fill_closures.ensures.0 c.clear_masks.ensures c.fill_masks.ensures;
        masks = c.fill_masks.ensures.masks;
        room = rw (c.fill_masks.auto.z, c.clear_masks.auto.z, c.fill_closures.auto.z) c.requires.3;
      },
      kept_then (kept_then (kept_then (kept_same _ _) c.fill_closures.ensures.1 (omega arith)) c.clear_masks.ensures.behind (le_refl slots_end)) c.fill_masks.ensures.behind (le_refl slots_end),
    )
