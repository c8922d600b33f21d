use Rattle.std.proofs.Common.{rules, arith, ◌∙◌, ◌≡◌, ◌+◌, ◌<◌, Some, None}
use Prim.Native.Nat.{max}
use Rattle.grammar.proofs.CardLaws.{well_formed}
use Rattle.grammar.specs.Card.{terminals, nonterminals}
use Rattle.states.specs.Places.{Target}
use Rattle.states.specs.States.{whole, stopped}
use Rattle.states.proofs.RowLaws.{row_start, row_skip, row_step, row_stop, target_low}
use Rattle.states.proofs.row.Goals as goal

pub loop-x-init : goal.loop-x-init
loop-x-init c =
    let wf = well_formed c.args.c.now c.requires.0 in
    let e : c.from.result + c.from-2.result ≡ terminals c.args.c.now + nonterminals c.args.c.now = omega (arith, c.terminals.ensures, c.nonterminals.ensures, c.from.ensures, c.from-2.ensures) in
    (row_start _ _ _ _ _ _ c.requires.4 c.requires.5 c.requires.6 c.requires.3 c.requires.9, omega arith, omega (arith, wf.limits.terminals_from))

pub skip-y-requires : goal.skip-y-requires
skip-y-requires c =
    let wf = well_formed c.args.c.now c.requires.0 in
    let e : c.from.result + c.from-2.result ≡ terminals c.args.c.now + nonterminals c.args.c.now = omega (arith, c.terminals.ensures, c.nonterminals.ensures, c.from.ensures, c.from-2.ensures) in
    (c.loop-x.invariant.2, omega (arith, wf.limits.terminals_to, wf.limits.nonterminals_to), omega (arith, c.requires.7), omega (arith, c.requires.8, c.loop-x.invariant.0.long))

pub returns-then-y-end : goal.returns-then-y-end
returns-then-y-end c =
    let e : c.from.result + c.from-2.result ≡ terminals c.args.c.now + nonterminals c.args.c.now = omega (arith, c.terminals.ensures, c.nonterminals.ensures, c.from.ensures, c.from-2.ensures) in
    let r = row_skip c.args.c.now c.args.s c.args.z.now c.args.m c.args.t.now c.args.at _ _ _ _ _ _ _ _ c.loop-x.invariant.0 c.loop-x.invariant.1 c.afters-a.ensures c.skip-y.ensures c.skip-y.auto.t in
    let y : c.skip-y.result ≡ terminals c.args.c.now + nonterminals c.args.c.now = c.if-y-end.true ∙ e in
    whole _ (rw y at r)

pub returns-in_err-p : goal.returns-in_err-p
returns-in_err-p c =
    let e : c.from.result + c.from-2.result ≡ terminals c.args.c.now + nonterminals c.args.c.now = omega (arith, c.terminals.ensures, c.nonterminals.ensures, c.from.ensures, c.from-2.ensures) in
    let r = row_skip c.args.c.now c.args.s c.args.z.now c.args.m c.args.t.now c.args.at _ _ _ _ _ _ _ _ c.loop-x.invariant.0 c.loop-x.invariant.1 c.afters-a.ensures c.skip-y.ensures c.skip-y.auto.t in
    let b : c.skip-y.result < c.from.result + c.from-2.result = omega (arith, c.if-y-end.false, c.skip-y.ensures.most) in
    let p : 0 < c.skip-y.result = omega (arith, c.skip-y.ensures.least, c.loop-x.invariant.1) in
    let tg : Target c.args.c.now c.args.s c.skip-y.result c.loop-x.z c.loop-x.n c.target.new.z None = rw c.in_err-p.was at c.target.ensures in
    let n : c.from_residual.result ≡ None = search rules in
    rw n (stopped (row_stop c.args.c.now c.args.s c.args.z.now c.args.m c.args.t.now c.args.at _ _ _ _ _ r p (omega arith) tg))

pub overflow_cast-t : goal.overflow_cast-t
overflow_cast-t c =
    let r = row_skip c.args.c.now c.args.s c.args.z.now c.args.m c.args.t.now c.args.at _ _ _ _ _ _ _ _ c.loop-x.invariant.0 c.loop-x.invariant.1 c.afters-a.ensures c.skip-y.ensures c.skip-y.auto.t in
    let tg : Target c.args.c.now c.args.s c.skip-y.result c.loop-x.z c.loop-x.n c.target.new.z (Some c.in_ok-p.p) = rw c.in_ok-p.was at c.target.ensures in
    let z : c.in_ok-p.p < 256 = target_low c.args.c.now c.args.s c.args.z.now c.args.m c.args.t.now c.args.at _ _ _ _ _ r.most tg in
    search rules

pub overflow_add-p : goal.overflow_add-p
overflow_add-p c =
    let r = row_skip c.args.c.now c.args.s c.args.z.now c.args.m c.args.t.now c.args.at _ _ _ _ _ _ _ _ c.loop-x.invariant.0 c.loop-x.invariant.1 c.afters-a.ensures c.skip-y.ensures c.skip-y.auto.t in
    let tg : Target c.args.c.now c.args.s c.skip-y.result c.loop-x.z c.loop-x.n c.target.new.z (Some c.in_ok-p.p) = rw c.in_ok-p.was at c.target.ensures in
    let z : c.in_ok-p.p < 256 = target_low c.args.c.now c.args.s c.args.z.now c.args.m c.args.t.now c.args.at _ _ _ _ _ r.most tg in
    search rules

pub loop-x-preserved : goal.loop-x-preserved
loop-x-preserved c =
    let wf = well_formed c.args.c.now c.requires.0 in
    let e : c.from.result + c.from-2.result ≡ terminals c.args.c.now + nonterminals c.args.c.now = omega (arith, c.terminals.ensures, c.nonterminals.ensures, c.from.ensures, c.from-2.ensures) in
    let r = row_skip c.args.c.now c.args.s c.args.z.now c.args.m c.args.t.now c.args.at _ _ _ _ _ _ _ _ c.loop-x.invariant.0 c.loop-x.invariant.1 c.afters-a.ensures c.skip-y.ensures c.skip-y.auto.t in
    let b : c.skip-y.result < c.from.result + c.from-2.result = omega (arith, c.if-y-end.false, c.skip-y.ensures.most) in
    let p : 0 < c.skip-y.result = omega (arith, c.skip-y.ensures.least, c.loop-x.invariant.1) in
    let tg : Target c.args.c.now c.args.s c.skip-y.result c.loop-x.z c.loop-x.n c.target.new.z (Some c.in_ok-p.p) = rw c.in_ok-p.was at c.target.ensures in
    let m : c.max-n.result ≡ max c.loop-x.n (c.in_ok-p.p + 1) = search rules in (
      row_step c.args.c.now c.args.s c.args.z.now c.args.m c.args.t.now c.args.at _ _ _ _ _ _ _ r (omega (arith, wf.limits.terminals_to, wf.limits.nonterminals_to)) wf.limits.nonterminals_to p
          (omega (arith, c.requires.7, c.requires.8, r.long)) tg c.target.auto.z m,
      omega arith,
      omega arith,
    )

pub returns : goal.returns
returns c =
    let e : c.from.result + c.from-2.result ≡ terminals c.args.c.now + nonterminals c.args.c.now = omega (arith, c.terminals.ensures, c.nonterminals.ensures, c.from.ensures, c.from-2.ensures) in
    let y : c.loop-x.x ≡ terminals c.args.c.now + nonterminals c.args.c.now = omega (arith, c.loop-x-test.false, c.loop-x.invariant.2) in
    whole _ (rw y at c.loop-x.invariant.0)
