use Rattle.std.proofs.Common.{ap, sym, ◌∙◌, arith}
use mathlib.Core.Logic.{⊎_elim}
use Rattle.relations.specs.Edge.{Edge}
use Rattle.digraph.specs.Walked.{at}
use Rattle.digraph.specs.Walk.{num_in}
use Rattle.sets.proofs.HasLaws.{below_suc}
use Rattle.digraph.proofs.Steps as steps
use Rattle.digraph.proofs.complete.Goals as goal

pub visit-requires : goal.visit-requires
visit-requires c = (steps.empty_room c.args.k c.loop-x.z c.requires.1 (omega arith), c.requires.0, c.loop-x-test.true)

pub loop-x-preserved : goal.loop-x-preserved
loop-x-preserved c =
    let a = c.args in
    let l = c.loop-x in
    let v = c.visit in
    record {
      inv = λ start I. steps.rooted (Edge a.relation a.c.now a.w.now a.k) a.k l.z l.x v.new.z v.result v.ensures start (l.invariant.inv start I);
      visited = λ u h e. ⊎_elim (λ g. l.invariant.visited u g (v.ensures.kept.visited u (omega arith) e)) (λ q. v.ensures.marked (ap (num_in v.new.z) (sym q) ∙ e)) (below_suc h);
      rest = λ j h. v.ensures.kept.rest j h ∙ l.invariant.rest j h;
    }

pub returns : goal.returns
returns c =
    let a = c.args in
    let E = Edge a.relation a.c.now a.w.now a.k in
    let l = c.loop-x in
    record {
      sets = steps.ended E a.k l.z (at a.z.now) (λ v h. l.invariant.visited v (omega arith)) (l.invariant.inv (at a.z.now) (steps.cleared E a.k c.clear.new.z a.z.now c.requires.1 c.clear.ensures));
      rest = λ j h. l.invariant.rest j h ∙ c.clear.ensures.rest j (omega arith);
      size = l.auto.z ∙ c.clear.auto.z;
    }
