use Rattle.std.proofs.Common.{rules, arith, ◌≡◌, ◌+◌, ◌<◌, length, Some, None}
use lib.ListN.{length-set}
use lib.Seq.{get_or-set_same}
use Rattle.grammar.proofs.CardLaws.{well_formed}
use Rattle.grammar.specs.Card.{terminals, nonterminals}
use Rattle.areas.proofs.RowLaws.{row_next, row_small, row_fits}
use Rattle.states.specs.States.{Rowed, finished, beyond}
use Rattle.states.proofs.TableLaws.{table_start, table_more, rowed_whole, rowed_stopped}
use lib.ListN.{set}
use Rattle.states.proofs.rows.Goals as goal

pub row-at-requires : goal.row-at-requires
row-at-requires c =
    let wf = well_formed c.args.c.now c.requires.0 in
    row_small c.args.c.now wf 0 (omega arith)

pub loop-q-init : goal.loop-q-init
loop-q-init c = (table_start _ _ _ c.requires.5 c.requires.3, c.row-at.ensures, omega arith)

pub offset_bounds-t-at : goal.offset_bounds-t-at
offset_bounds-t-at c =
    let wf = well_formed c.args.c.now c.requires.0 in
    let l = row_fits c.args.c.now wf c.loop-q.q (omega (arith, c.loop-q.invariant.0.most, c.loop-q-test.true)) in
    omega (arith, c.loop-q.invariant.1)

pub bounds-t-at : goal.bounds-t-at
bounds-t-at c =
    let wf = well_formed c.args.c.now c.requires.0 in
    let l = row_fits c.args.c.now wf c.loop-q.q (omega (arith, c.loop-q.invariant.0.most, c.loop-q-test.true)) in
    omega (arith, c.loop-q.invariant.1, c.loop-q.invariant.0.long, c.requires.4, wf.limits.terminals_from)

pub row-requires : goal.row-requires
row-requires c =
    let wf = well_formed c.args.c.now c.requires.0 in
    let l = row_fits c.args.c.now wf c.loop-q.q (omega (arith, c.loop-q.invariant.0.most, c.loop-q-test.true)) in
    let b : c.loop-q.at < length c.loop-q.t = omega (arith, c.loop-q.invariant.1, c.loop-q.invariant.0.long, c.requires.4, wf.limits.terminals_from) in (
      c.requires.0,
      c.requires.1,
      c.requires.2,
      c.loop-q.invariant.0.prepared,
      c.loop-q.invariant.0.some,
      c.loop-q.invariant.0.most,
      c.loop-q.invariant.0.apart,
      rw c.loop-q.invariant.1 l,
      simp length-set (rw c.loop-q.invariant.0.long c.requires.4),
      get_or-set_same c.loop-q.t c.loop-q.at 0 0 b,
    )

pub returns-in_err-n : goal.returns-in_err-n
returns-in_err-n c =
    let h : Rowed c.args.c.now c.load-s.result c.loop-q.z c.loop-q.n (set c.loop-q.t c.loop-q.at 0) c.loop-q.at c.row.new.z c.row.new.t None = rw c.in_err-n.was at c.row.ensures in
    let n : c.from_residual.result ≡ None = search rules in
    rw n (beyond _ _ _ _ c.loop-q.invariant.0 c.loop-q-test.true (rw (c.load-s.ensures, c.loop-q.invariant.1) at (rowed_stopped _ _ _ _ _ _ _ _ h)))

pub overflow_add-at : goal.overflow_add-at
overflow_add-at c =
    let wf = well_formed c.args.c.now c.requires.0 in
    let l = row_fits c.args.c.now wf c.loop-q.q (omega (arith, c.loop-q.invariant.0.most, c.loop-q-test.true)) in
    let e : c.from.result + c.from-2.result ≡ terminals c.args.c.now + nonterminals c.args.c.now = omega (arith, c.terminals.ensures, c.nonterminals.ensures, c.from.ensures, c.from-2.ensures) in
    omega (arith, c.loop-q.invariant.1)

pub loop-q-preserved : goal.loop-q-preserved
loop-q-preserved c =
    let wf = well_formed c.args.c.now c.requires.0 in
    let e : c.from.result + c.from-2.result ≡ terminals c.args.c.now + nonterminals c.args.c.now = omega (arith, c.terminals.ensures, c.nonterminals.ensures, c.from.ensures, c.from-2.ensures) in
    let h : Rowed c.args.c.now c.load-s.result c.loop-q.z c.loop-q.n (set c.loop-q.t c.loop-q.at 0) c.loop-q.at c.row.new.z c.row.new.t (Some c.in_ok-n.n) = rw c.in_ok-n.was at c.row.ensures in
    let r = rw (c.load-s.ensures, c.loop-q.invariant.1) at (rowed_whole _ _ _ _ _ _ _ _ _ h) in (
      table_more _ _ _ _ _ _ _ _ _ _ wf c.loop-q.invariant.0 c.loop-q-test.true r,
      omega (arith, c.loop-q.invariant.1, row_next c.args.c.now c.loop-q.q),
      omega (arith, r.more, c.loop-q-test.true),
    )

pub returns : goal.returns
returns c =
    let e : c.loop-q.q ≡ c.loop-q.n = omega (arith, c.loop-q-test.false, c.loop-q.invariant.2) in
    finished _ (rw e at c.loop-q.invariant.0)
