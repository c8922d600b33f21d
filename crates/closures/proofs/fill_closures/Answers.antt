use Rattle.std.proofs.Common.{rules, arith, ◌∙◌, ◌+◌, ◌<◌}
use Rattle.grammar.proofs.CardLaws.{well_formed}
use Rattle.grammar.specs.Card.{nonterminals}
use Rattle.sets.proofs.BitLaws.{one_shl}
use Rattle.closures.specs.Areas.{closures_at, Added}
use Rattle.closures.proofs.AreaLaws.{kept_then, added}
use Rattle.closures.proofs.LeadLaws.{closures_more}
use Rattle.closures.proofs.fill_closures.Goals as goal

pub bounds-b-j : goal.bounds-b-j
bounds-b-j c =
    let wf = well_formed c.args.c.now c.requires.0 in
    omega (arith, wf.limits.nonterminals_to, c.from-n.ensures, c.nonterminals.ensures)

pub overflow_shl-j : goal.overflow_shl-j
overflow_shl-j c =
    let wf = well_formed c.args.c.now c.requires.0 in
    omega (arith, wf.limits.nonterminals_to, c.from-n.ensures, c.nonterminals.ensures)

pub store-requires : goal.store-requires
store-requires c =
    let wf = well_formed c.args.c.now c.requires.0 in
    omega (arith, wf.limits.nonterminals_to, c.from-n.ensures, c.nonterminals.ensures, c.requires.3)

pub loop-j-preserved : goal.loop-j-preserved
loop-j-preserved c =
    let wf = well_formed c.args.c.now c.requires.0 in
    let h : c.loop-j.j < nonterminals c.args.c.now = omega (arith, c.from-n.ensures, c.nonterminals.ensures) in
    let l : c.loop-j.j < 60 = omega (arith, wf.limits.nonterminals_to) in
    let ad : Added c.loop-j.z (closures_at + c.loop-j.j) c.firsts-r.result c.store.new.d =
    rw c.store.ensures (added c.loop-j.z (closures_at + c.loop-j.j) c.firsts-r.result (search rules) (omega (arith, c.requires.3))) in (
      closures_more _ _ _ _ _ _ wf c.loop-j.invariant.0 c.led-b.ensures h (rw (one_shl 64 c.loop-j.j (omega arith)) at c.firsts-r.ensures) ad,
      c.store.auto.d ∙ c.loop-j.invariant.1,
      kept_then c.loop-j.invariant.2 ad.behind (omega arith),
    )
