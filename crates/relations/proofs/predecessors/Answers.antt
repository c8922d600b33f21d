use Rattle.state_sets.proofs.WordLaws.{out_less}
use Rattle.relations.proofs.predecessors.Goals as goal

pub loop-q-smaller : goal.loop-q-smaller
loop-q-smaller c = out_less _ _ _ (c.loop-q.invariant.0.here c.loop-q-test.true) c.without-rest.ensures 256 c.loop-q-test.true
