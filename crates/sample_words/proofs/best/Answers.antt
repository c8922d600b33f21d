use mathlib.Core.Path.{ap, ◌∙◌}
use Rattle.std.proofs.Common.{◌<◌, true, false, arith}
use Rattle.grammar.specs.Card.{length_of}
use Rattle.nonterminals.proofs.WordLaws.{right_place}
use Rattle.sample_words.specs.Words.{count_of}
use Rattle.sample_words.proofs.SumLaws.{going_none, going_here, going_before, best_used, best_plain}
use Rattle.sample_words.proofs.PieceLaws.{turn_symbol}
use Rattle.sample_words.proofs.best.Goals as goal
use Rattle.sample_words.proofs.best.Goals.{then-here-used, else-here-used}

pub loop-d-init : goal.loop-d-init
loop-d-init c = going_none _ _ _ _

pub overflow_add-s : goal.overflow_add-s
overflow_add-s c =
    let below : c.loop-d.d < length_of c.args.c.now c.args.r = omega arith in
    omega (arith, right_place _ c.requires.0 _ _ c.requires.1 below)

pub count-requires : goal.count-requires
count-requires c =
    let a = c.args in
    let x = turn_symbol a.c.now c.requires.0 a.r c.loop-d.d c.requires.1 (omega arith) c.requires.2 c.from.ensures c.symbol-x.ensures in
    (c.requires.0, x.1, c.requires.3)

pub count-m-requires : goal.count-m-requires
count-m-requires c =
    let a = c.args in
    let x = turn_symbol a.c.now c.requires.0 a.r c.loop-d.d c.requires.1 (omega arith) c.requires.2 c.from.ensures c.symbol-x.ensures in
    (c.requires.0, x.1, c.requires.3)

pub loop-d-preserved : goal.loop-d-preserved
loop-d-preserved c =
    let a = c.args in
    let x = turn_symbol a.c.now c.requires.0 a.r c.loop-d.d c.requires.1 (omega arith) c.requires.2 c.from.ensures c.symbol-x.ensures in
    let t = c.count.ensures.0 ∙ ap (count_of a.c.now a.table.now.lengths true) x.0 in
    let m = c.count-m.ensures.0 ∙ ap (count_of a.c.now a.table.now.lengths false) x.0 in
    elim c.if-here-used.branch [
      | then-here-used w ↦ rw (w.used-is, w.place-is) (going_here _ _ _ c.loop-d.invariant _ _ t m c.count-m.ensures.1 w.if-here-used.true)
      | else-here-used w ↦ rw (w.used-is, w.place-is) (going_before _ _ _ c.loop-d.invariant _ _ t m c.count-m.ensures.1 w.if-here-used.false)
    ]

pub returns-then-u : goal.returns-then-u
returns-then-u c = rw c.if-u.true (best_used _ _ _ c.requires.1 c.loop-d.invariant (omega arith))

pub returns-else-u : goal.returns-else-u
returns-else-u c = rw c.if-u.false (best_plain _ _ _ c.requires.1 c.loop-d.invariant (omega arith))
