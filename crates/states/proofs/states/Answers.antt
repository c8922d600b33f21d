use Rattle.std.proofs.Common.{rules, arith, refl, ◌∙◌, ◌≡◌, ◌+◌, ◌≤◌}
use Rattle.grammar.proofs.CardLaws.{well_formed}
use Rattle.closures.specs.Areas.{Added}
use Rattle.closures.proofs.AreaLaws.{kept_then, added}
use Rattle.closures.proofs.FillLaws.{added_first}
use Rattle.states.proofs.RowLaws.{prepared_kept}
use Rattle.states.proofs.TableLaws.{start_of, built}
use Rattle.states.proofs.states.Goals as goal

pub with-requires : goal.with-requires
with-requires c =
    let wf = well_formed c.args.c.now c.requires.0 in
    let s : c.start.result + c.from.result ≡ c.start.result + c.productions-p.result = omega (arith, c.from.ensures) in
    let f = added_first c.args.c.now c.productions-p.result c.productions-p.result c.start.result (c.start.result + c.from.result) wf c.productions-p.ensures refl c.start.ensures s in
    let l : c.start.result + c.from.result ≤ 640 = f.1 in
    omega arith

pub rows-requires : goal.rows-requires
rows-requires c =
    let wf = well_formed c.args.c.now c.requires.0 in
    let s : c.start.result + c.from.result ≡ c.start.result + c.productions-p.result = omega (arith, c.from.ensures) in
    let f = added_first c.args.c.now c.productions-p.result c.productions-p.result c.start.result (c.start.result + c.from.result) wf c.productions-p.ensures refl c.start.ensures s in
    let ad : Added c.prepare.new.z 0 c.closure-first.result c.store.new.d =
    rw c.store.ensures (added c.prepare.new.z 0 c.closure-first.result (search rules) (omega (arith, c.prepare.ensures.0.room))) in (
      c.requires.0,
      rw c.fill.auto.w c.requires.3,
      c.fill.ensures.0,
      prepared_kept _ _ _ _ 0 (omega (arith, wf.limits.terminals_to, wf.limits.nonterminals_to)) wf.limits.nonterminals_to (omega arith) ad c.store.auto.d c.prepare.ensures.0,
      c.requires.1,
      rw ad.new (start_of _ _ _ _ _ f.0 c.empty.ensures c.with.ensures c.closure-first.ensures),
    )

pub returns : goal.returns
returns c =
    let wf = well_formed c.args.c.now c.requires.0 in
    let ad : Added c.prepare.new.z 0 c.closure-first.result c.store.new.d =
    rw c.store.ensures (added c.prepare.new.z 0 c.closure-first.result (search rules) (omega (arith, c.prepare.ensures.0.room))) in
    built _ _ _ _ _ _ _ _ _ wf (kept_then c.prepare.ensures.1 ad.behind (omega arith)) (c.store.auto.d ∙ c.prepare.auto.z) c.rows.ensures c.fill.ensures.1
