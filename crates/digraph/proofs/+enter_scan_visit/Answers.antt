-- Entering a node, scanning its edges and visiting their nodes.
use native.Mathlib.Omega.{arith}
use Rattle.relations.specs.Edge.{Edge}
use Rattle.relations.specs.Walk.{Left}
use Rattle.digraph.proofs.Steps as steps
use Rattle.digraph.proofs.+enter_scan_visit.Goals as goal

pub enter-push-requires : goal.enter-push-requires
enter-push-requires t c =
    let a = c.args in
    let p = c.requires in
    (p.0.long, omega (arith, p.0.small, p.2), omega (arith, p.0.small, steps.fits a.k a.z.now a.depth a.x p.0 p.2 p.3))

pub enter-scan-d-requires : goal.enter-scan-d-requires
enter-scan-d-requires t c =
    let a = c.args in
    let p = c.requires in
    let less = steps.push_less a.k a.z.now a.depth a.x p.0 p.2 p.3 c.push.new.z c.push.ensures in
    (omega (arith, c.decreases, less), (steps.push_room a.k a.z.now a.depth a.x p.0 p.2 p.3 c.push.new.z c.push.ensures, p.1, p.2))

pub enter-returns : goal.enter-returns
enter-returns t c =
    let a = c.args in
    let p = c.requires in
    steps.entered a.k a.z.now a.depth a.x p.0 p.2 p.3 c.push.new.z c.push.ensures
    (Edge a.relation a.c.now a.w.now a.k) c.scan-d.new.z c.scan-d.result c.scan-d.ensures c.finish.new.z c.finish.result c.finish.auto.z c.finish.ensures

pub scan-loop-node-init : goal.scan-loop-node-init
scan-loop-node-init t c =
    let a = c.args in
    let p = c.requires in
    let f = c.first_edge-cursor.ensures a.k p.1 in
    (f.sound, steps.scan_first (Edge a.relation a.c.now a.w.now a.k) a.k a.z.now a.depth a.x (Left a.relation a.c.now a.w.now a.k a.x c.first_edge-cursor.result) p.0 f.all)

pub scan-visit-d-requires : goal.scan-visit-d-requires
scan-visit-d-requires t c =
    let a = c.args in
    let p = c.requires in
    let l = c.loop-node in
    let h = (c.in-Some.ensures a.k p.1).here in
    let fewer = steps.scan_fewer (Edge a.relation a.c.now a.w.now a.k) a.k a.z.now a.depth a.x (Left a.relation a.c.now a.w.now a.k a.x l.cursor) l.z l.d l.invariant.1 in
    (omega (arith, c.decreases, fewer), (l.invariant.1.kept.room, p.1, h.inside))

pub scan-loop-node-preserved : goal.scan-loop-node-preserved
scan-loop-node-preserved t c =
    let a = c.args in
    let p = c.requires in
    let l = c.loop-node in
    let f = c.in-Some.ensures a.k p.1 in
    let found = c.in-Some.field-0 in
    let v = c.visit-d in
    let j = c.join in
    let scanned =
    steps.scan_more (Edge a.relation a.c.now a.w.now a.k) a.k a.z.now a.depth a.x (Left a.relation a.c.now a.w.now a.k a.x l.cursor) l.z l.d l.invariant.1
    found.node p.2 f.here.inside f.here (Left a.relation a.c.now a.w.now a.k a.x found.cursor) f.after v.new.z v.result v.ensures j.new.z j.ensures in
    (f.sound, scanned)

pub scan-returns : goal.scan-returns
scan-returns t c =
    let a = c.args in
    let l = c.loop-node in
    steps.scan_last (Edge a.relation a.c.now a.w.now a.k) a.k a.z.now a.depth a.x (Left a.relation a.c.now a.w.now a.k a.x l.cursor) l.z l.d l.invariant.1 (c.in_default.ensures a.k c.requires.1)
