use Rattle.std.proofs.Common.{◌<◌, ◌∙◌, arith}
use Rattle.grammar.specs.Card.{length_of}
use Rattle.nonterminals.proofs.WordLaws.{right_place}
use Rattle.sample_words.specs.Words.{place_of}
use Rattle.sample_words.proofs.PieceLaws.{at_place, turn_symbol, composing_none, composing_more, room_at}
use Rattle.sample_words.proofs.compose.Goals as goal

pub loop-d-init : goal.loop-d-init
loop-d-init c = composing_none _ _ _ _ _

pub overflow_add-s : goal.overflow_add-s
overflow_add-s c =
    let below : c.loop-d.d < length_of c.args.c.now c.args.r = omega arith in
    omega (arith, right_place _ c.requires.0 _ _ c.requires.1 below)

pub put-m-requires : goal.put-m-requires
put-m-requires c =
    let a = c.args in
    let p = c.requires in
    let x = turn_symbol a.c.now c.requires.0 a.r c.loop-d.d c.requires.1 (omega arith) c.requires.2 c.from.ensures c.symbol-x.ensures in
    let h = c.eq.ensures ∙ at_place a.c.now a.r c.loop-d.d (omega arith) a.place in
    let room = room_at a.c.now a.table.now.lengths a.table.now.words p.0 p.5 a.r (place_of a.c.now a.r a.place) p.1 c.loop-d.d (omega arith) p.3 in
    (p.0, x.1, rw (h, x.0) (omega (arith, c.loop-d.invariant.sum, room)), p.5)

pub loop-d-preserved : goal.loop-d-preserved
loop-d-preserved c =
    let a = c.args in
    let p = c.requires in
    let x = turn_symbol a.c.now c.requires.0 a.r c.loop-d.d c.requires.1 (omega arith) c.requires.2 c.from.ensures c.symbol-x.ensures in
    let h = c.eq.ensures ∙ at_place a.c.now a.r c.loop-d.d (omega arith) a.place in
    composing_more _ _ _ p.0 p.5 _ _ p.1 _ (omega arith) p.3 (rw (h, x.0) at c.put-m.ensures.0) (λ v l e. rw (h, x.0) at (c.put-m.ensures.1 v l e)) c.loop-d.invariant
