-- The calls end since fewer nodes are unvisited at each entry, the loop since the cursor has less to give.
use Rattle.std.proofs.Common.{◌+◌, ◌*◌}
use Rattle.relations.specs.Edge.{Edge}
use Rattle.relations.specs.Walk.{Left, Sound, room}
use Rattle.digraph.specs.Walk.{Scanned, unvisited, num_in}
use Rattle.digraph.proofs.+enter_scan_visit.Given as goal

abbrev pub decreases-enter : goal.decreases-enter
decreases-enter l = 3 * unvisited (num_in l.z.now) l.k

abbrev pub decreases-scan : goal.decreases-scan
decreases-scan l = 3 * unvisited (num_in l.z.now) l.k + 2

abbrev pub decreases-visit : goal.decreases-visit
decreases-visit l = 3 * unvisited (num_in l.z.now) l.k + 1

abbrev pub invariant-scan-loop-node : goal.invariant-scan-loop-node
invariant-scan-loop-node l =
    Sound l.relation l.c l.w l.x l.cursor × Scanned (Edge l.relation l.c l.w l.k) l.k l.initial.z l.depth l.x l.z l.d (Left l.relation l.c l.w l.k l.x l.cursor)

abbrev pub decreases-scan-loop-node : goal.decreases-scan-loop-node
decreases-scan-loop-node l = room l.relation l.w l.x l.cursor
