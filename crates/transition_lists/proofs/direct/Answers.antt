use Rattle.std.proofs.Common.{◌≡◌, arith}
use Rattle.transition_lists.proofs.WordLaws.{copied_direct, copied_end, enters_below}
use Rattle.transition_lists.proofs.direct.Goals as goal

pub loop-i-preserved : goal.loop-i-preserved
loop-i-preserved c = λ a C.
    copied_direct _ _ _ _ _ _ _ _ _ c.enters.ensures (enters_below _ _ _ _ _ c.requires.0 c.requires.2 _ c.loop-i-test.true) (omega (arith, c.requires.2.ordered.few))
    (omega (arith, (c.words.ensures c.args.w.now).long)) c.ending.ensures (c.loop-i.invariant a C)

pub returns : goal.returns
returns c =
    let e : c.loop-i.i ≡ c.args.k = omega arith in
    copied_end _ _ _ _ _ _ _ c.requires.0.most (rw e at (c.loop-i.invariant _ (c.words.ensures _)))
