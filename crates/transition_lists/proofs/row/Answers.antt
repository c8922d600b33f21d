use Rattle.std.proofs.Common.{◌≡◌, ◌∙◌, ◌+◌, arith}
use Rattle.grammar.specs.Card.{terminals, nonterminals}
use Rattle.grammar.proofs.CardLaws.{well_formed}
use Rattle.transition_lists.proofs.PassLaws.{passed_most, cell_at, cell_small, step}
use Rattle.transition_lists.proofs.row.Goals as goal

pub cell-r-requires : goal.cell-r-requires
cell-r-requires c =
    let l = (well_formed _ c.requires.0).limits in
    let most = c.requires.1.most in
    let i = c.loop-x.invariant in (
      omega arith,
      cell_small _ _ _ c.requires.1 _ _ _ (cell_at _ _ _ _ _ _ _ c.requires.2 (omega arith) c.row_at-at.ensures.0 (c.from-v.ensures ∙ c.at.ensures)),
      passed_most _ _ _ _ _ _ _ i.passed l.nonterminals_to (omega arith) (omega (arith, l.terminals_to, l.nonterminals_to)),
      omega (arith, i.rest.long),
    )

pub loop-x-preserved : goal.loop-x-preserved
loop-x-preserved c =
    let most = c.requires.1.most in
    step _ _ _ c.requires.1 _ _ _ _ _ _ (omega arith) (omega arith) c.loop-x.invariant _
    (cell_at _ _ _ _ _ _ _ c.requires.2 (omega arith) c.row_at-at.ensures.0 (c.from-v.ensures ∙ c.at.ensures))
    (rw (c.from-m.ensures ∙ c.terminals.ensures) at c.cell-r.ensures)

pub returns : goal.returns
returns c =
    let l = (well_formed _ c.requires.0).limits.terminals_from in
    let e : c.loop-x.x ≡ terminals c.args.c.now + nonterminals c.args.c.now = omega arith in
    rw e at c.loop-x.invariant
