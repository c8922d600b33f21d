use Rattle.std.proofs.Common.{ap, ◌∙◌, sym, arith, Some, None}
use Rattle.sets.proofs.HasLaws.{has_none}
use Rattle.grammar.specs.Card.{terminals}
use Rattle.lookaheads.specs.Outcome.{Met}
use Rattle.areas.specs.Areas.{row_of}
use Rattle.lookaheads.proofs.LookLaws.{few, live_as}
use Rattle.lookaheads.proofs.RowLaws.{row_fits, row_room, known, rows_more, row_as, crossed, searched_met, searched_free}
use Rattle.lookaheads.proofs.rows.Goals.{then-meet-ne0+else-loop-m-test, else-meet-ne0}
use Rattle.lookaheads.proofs.rows.Goals as goal

pub target-a-requires : goal.target-a-requires
target-a-requires c = row_fits _ _ _ c.requires.0.ordered 0 (omega arith)

pub meeting-meet-requires : goal.meeting-meet-requires
meeting-meet-requires c =
    let many = c.from-p.ensures ∙ c.productions.ensures in
    (omega (arith, many, few _ _ _ c.requires.0.ordered), live_as _ _ _ _ many c.words-found.ensures.0)

pub conflict_at-requires : goal.conflict_at-requires
conflict_at-requires c = (few _ _ _ c.requires.0.ordered, row_fits _ _ _ c.requires.0.ordered _ (omega (arith, c.requires.0.numbered.most)))

-- two numbers meet at the state and the terminal in hand
pub returns-then-has : goal.returns-then-has
returns-then-has c = λ k o.
    let s = c.requires.0 in
    let done = c.loop-q.invariant k o in
    let is = known _ _ _ _ _ k c.requires.0 o _ _ _ _ _ _ _ _ c.loop-q-test.true c.from-state.ensures c.target-a.ensures (c.from-p.ensures ∙ c.productions.ensures) c.shifts.ensures
    (c.words-found.ensures.1 k o) c.acceptance-accept.ensures c.meeting-meet.ensures in
    let least : Met c.meeting-meet.result (terminals c.args.c.now) (Some c.loop-m.m) =
    (rw c.terminals-terminals.ensures at c.loop-m-test.true, rw c.from.ensures at (sym c.has.ensures ∙ c.if-has.true), c.loop-m.invariant)
    in
    let x = crossed _ _ _ _ _ k s o _ _ done c.loop-q-test.true _ _ _ _ is _ least in
    searched_met _ _ _ _ _ k s o _ _ _ _ done x
    (c.conflict_at.ensures _ _ _ k _ s.numbered is.looks x.terminal (row_as _ _ _ _ _ k s o _ _ done c.loop-q-test.true _ (omega (arith, x.terminal))) x.two)

pub row-b-requires : goal.row-b-requires
row-b-requires c = rw c.from-in-loop-q.ensures (row_fits _ _ _ c.requires.0.ordered _ (omega (arith, c.requires.0.numbered.most)))

pub write-requires : goal.write-requires
write-requires c =
    let o = c.requires.0.ordered in
    let many = c.from-p.ensures ∙ c.productions.ensures in
    let e = c.row-b.ensures ∙ ap (row_of _) c.from-in-loop-q.ensures in (
      omega (arith, many, few _ _ _ o),
      omega (arith, e, row_room _ _ _ o c.loop-q.q (omega (arith, c.requires.0.numbered.most)), (c.loop-q.invariant _ o).long, c.requires.0.table_long),
      live_as _ _ _ _ many c.words-found.ensures.0,
    )

pub loop-q-preserved : goal.loop-q-preserved
loop-q-preserved c = λ k o.
    let many = c.from-p.ensures ∙ c.productions.ensures in
    let is = known _ _ _ _ _ k c.requires.0 o _ _ _ _ _ _ _ _ c.loop-q-test.true c.from-state.ensures c.target-a.ensures (c.from-p.ensures ∙ c.productions.ensures) c.shifts.ensures
    (c.words-found.ensures.1 k o) c.acceptance-accept.ensures c.meeting-meet.ensures in
    let none : Met c.meeting-meet.result (terminals c.args.c.now) None = λ i h.
    elim c.if-meet-ne0.branch [
      | then-meet-ne0+else-loop-m-test w ↦ w.loop-m.invariant i (omega (arith, h, c.terminals-terminals.ensures, w.loop-m-test.false))
      | else-meet-ne0 w ↦ λ e. has_none i (rw w.if-meet-ne0.false at e)
    ]
    in
    rows_more _ _ _ _ _ k c.requires.0 o _ _ (c.loop-q.invariant k o) c.loop-q-test.true _ _ _ _ is _ _ _ (c.row-b.ensures ∙ ap (row_of _) c.from-in-loop-q.ensures) many none c.write.ensures

pub returns-after-loop-q : goal.returns-after-loop-q
returns-after-loop-q c = λ k o. searched_free _ _ _ _ _ k c.requires.0 o _ _ _ (omega arith) c.loop-q-test.false (c.loop-q.invariant k o)
