-- `array` meets its contract: the two heads are written, then both parts.
use Rattle.merged_card.proofs.WritingLaws.{room_first, room_second, array_written, array_end}
use Rattle.merged_card.proofs.array.Goals as goal

pub transfer-requires : goal.transfer-requires
transfer-requires c =
    (c.requires.0.first, room_first c.args.a.now c.args.b.now c.args.s c.args.t c.args.i c.args.out.now c.requires.1, c.requires.0.first_narrow)

pub transfer-requires-2 : goal.transfer-requires-2
transfer-requires-2 c =
    (c.requires.0.second, room_second c.args.a.now c.args.b.now c.args.s c.args.t c.args.i c.args.out.now c.requires.1 c.transfer.ensures, c.requires.0.second_narrow)

pub returns : goal.returns
returns c =
    let a = c.args in
    let r = c.requires.1 in
    let e = c.transfer.ensures in
    let d = c.transfer-2.ensures in
    (array_end a.a.now a.b.now a.s a.t a.i a.out.now r e d, array_written a.a.now a.b.now a.s a.t a.i a.out.now r e d)
