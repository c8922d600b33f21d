use Rattle.std.proofs.Common.{◌≡◌, ◌+◌, ◌<◌, refl, arith, add-one}
use Rattle.grammar.specs.Card.{start_of, length_of}
use Rattle.grammar.proofs.CardLaws.{right_is}
use Rattle.nonterminals.specs.Gathering.{join_of}
use Rattle.nonterminals.proofs.WordLaws.{join_last, right_place, right_symbol}
use Rattle.nonterminals.proofs.right.Goals as goal

pub loop-d-init : goal.loop-d-init
unfolding join_of
loop-d-init c = refl

pub overflow_add-s : goal.overflow_add-s
overflow_add-s c =
    let d : c.loop-d.d < length_of c.args.c.now c.args.r = omega arith in
    omega (arith, right_place _ c.requires.0 _ _ c.requires.1 d)

pub word-v-requires : goal.word-v-requires
word-v-requires c =
    let d : c.loop-d.d < length_of c.args.c.now c.args.r = omega arith in
    let e : c.args.s + c.from.result ≡ start_of c.args.c.now c.args.r + c.loop-d.d = omega arith in
    (c.requires.0, rw (c.symbol.ensures, e) (right_symbol _ c.requires.0 _ _ c.requires.1 d))

pub loop-d-preserved : goal.loop-d-preserved
loop-d-preserved c =
    let e : c.args.s + c.from.result ≡ start_of c.args.c.now c.args.r + c.loop-d.d = omega arith in
    rw (add-one, join_last, c.word-v.ensures, c.symbol.ensures, e, c.loop-d.invariant)

pub returns : goal.returns
returns c =
    let e : c.loop-d.d ≡ length_of c.args.c.now c.args.r = omega arith in
    rw (right_is c.args.c.now c.args.r c.requires.1, ← e) c.loop-d.invariant
