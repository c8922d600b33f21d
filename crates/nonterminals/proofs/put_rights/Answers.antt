use Rattle.std.proofs.Common.{rules, ◌<◌, refl, arith, add-one}
use Rattle.grammar.specs.Card.{productions, start_of}
use Rattle.grammar.proofs.CardLaws.{well_formed}
use Rattle.nonterminals.proofs.WordLaws.{ends_below, words_start, words_more}
use Rattle.nonterminals.proofs.put_rights.Goals as goal

pub loop-r-init : goal.loop-r-init
unfolding start_of
loop-r-init c = (words_start _ _ (search rules), refl)

pub bounds-v-from : goal.bounds-v-from
bounds-v-from c = omega (arith, (well_formed _ c.requires).limits.productions_to)

pub overflow_add-s : goal.overflow_add-s
overflow_add-s c =
    let below : c.loop-r.r < productions c.args.c.now = omega arith in
    omega (arith, ends_below _ c.requires _ below, c.loop-r.invariant.1)

pub loop-r-preserved : goal.loop-r-preserved
unfolding start_of
loop-r-preserved c =
    let w = well_formed _ c.requires in
    (words_more _ _ _ c.loop-r.invariant.0 (omega (arith, w.limits.productions_to)) _ _ c.from.ensures c.right.ensures, rw (add-one, c.from-s.ensures, c.length.ensures, c.loop-r.invariant.1))
