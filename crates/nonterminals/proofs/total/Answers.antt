use Rattle.std.proofs.Common.{◌≡◌, ◌+◌, ◌<◌, refl, arith, add-one}
use Rattle.grammar.specs.Card.{start_of, length_of}
use Rattle.grammar.proofs.CardLaws.{well_formed, right_at}
use Rattle.nonterminals.specs.Lessening.{total_of}
use Rattle.nonterminals.proofs.WordLaws.{right_place}
use Rattle.nonterminals.proofs.LengthLaws.{total_last, part_far, part_whole}
use Rattle.nonterminals.proofs.total.Goals as goal

pub loop-d-init : goal.loop-d-init
unfolding total_of
loop-d-init c = refl

pub returns-then-m-v : goal.returns-then-m-v
returns-then-m-v c =
    let v = c.loop-d.invariant in
    rw v (part_far c.args.c.now c.args.e.now c.args.r c.loop-d.d c.requires.1 c.args.m (omega arith) (rw v at c.if-m-v.true))

pub overflow_add-s : goal.overflow_add-s
overflow_add-s c =
    let d : c.loop-d.d < length_of c.args.c.now c.args.r = omega arith in
    omega (arith, right_place _ c.requires.0 _ _ c.requires.1 d)

pub count-v-requires : goal.count-v-requires
count-v-requires c =
    let d : c.loop-d.d < length_of c.args.c.now c.args.r = omega arith in
    (c.requires.0, omega (arith, right_at _ (well_formed _ c.requires.0) c.args.r c.loop-d.d c.requires.1 d), c.requires.3)

pub loop-d-preserved : goal.loop-d-preserved
loop-d-preserved c =
    let e : c.args.s + c.from.result ≡ start_of c.args.c.now c.args.r + c.loop-d.d = omega arith in
    rw (add-one, total_last, c.count-v.ensures.0, e, c.loop-d.invariant)

pub returns : goal.returns
returns c =
    rw c.loop-d.invariant (part_whole c.args.c.now c.args.e.now c.args.r c.loop-d.d c.requires.1 c.args.m (omega arith))
