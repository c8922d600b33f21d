use Rattle.std.proofs.Common.{arith, rules}
use Rattle.transitions.proofs.SymbolLaws.{right_fits}
use Rattle.occurrences.proofs.GatherLaws.{turn_terminal, turn_room, turn_last, turn_null}
use Rattle.occurrences.proofs.tail.Goals as goal

pub overflow_add-s : goal.overflow_add-s
overflow_add-s c = let f = right_fits _ c.args.r c.requires.0 c.requires.1 in omega arith

pub returns-then-x-t : goal.returns-then-x-t
returns-then-x-t c =
    turn_terminal c.args.c.now c.args.w.now c.loop-d.w c.args.r c.loop-d.d c.loop-d.k c.args.s c.from-x.result c.from-t.result (search rules) c.if-x-t.true

pub occur-requires : goal.occur-requires
occur-requires c =
    let room = turn_room c.args.c.now c.args.w.now c.loop-d.w c.args.r c.loop-d.d c.loop-d.k c.args.s c.from-x.result c.from-t.result (search rules) c.if-x-t.false in
    (room.0, room.1, omega arith)

pub returns-then-shortest_length-ne0 : goal.returns-then-shortest_length-ne0
returns-then-shortest_length-ne0 c =
    turn_last c.args.c.now c.args.w.now c.loop-d.w c.args.r c.loop-d.d c.loop-d.k c.args.s c.from-x.result c.from-t.result (search rules) c.if-x-t.false
    _ (rw c.from.ensures at c.occur.ensures) _ c.shortest_length.ensures c.if-shortest_length-ne0.true

pub loop-d-preserved : goal.loop-d-preserved
loop-d-preserved c =
    turn_null c.args.c.now c.args.w.now c.loop-d.w c.args.r c.loop-d.d c.loop-d.k c.args.s c.from-x.result c.from-t.result (search rules) c.if-x-t.false
    _ (rw c.from.ensures at c.occur.ensures) _ c.shortest_length.ensures c.if-shortest_length-ne0.false
