use Rattle.std.proofs.Common.{◌≡◌, arith}
use Rattle.transition_lists.proofs.WordLaws.{copied_word}
use Rattle.transition_lists.proofs.words.Goals as goal

pub loop-q-preserved : goal.loop-q-preserved
loop-q-preserved c = λ w. copied_word _ w _ _ _ _ _ (omega arith) (omega arith) c.shifts.ensures (c.loop-q.invariant w)

pub returns : goal.returns
returns c = λ w. let e : c.loop-q.q ≡ c.args.n = omega arith in rw e at (c.loop-q.invariant w)
