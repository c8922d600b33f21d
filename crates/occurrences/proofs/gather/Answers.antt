use Rattle.std.proofs.Common.{◌∙◌, ◌<◌, refl, arith}
use Rattle.grammar.specs.Card.{productions, start_of}
use Rattle.grammar.proofs.CardLaws.{well_formed}
use Rattle.transitions.proofs.SymbolLaws.{right_fits, start_more}
use Rattle.occurrences.proofs.GatherLaws.{store_start, store_tail, tail_high, started_more}
use Rattle.occurrences.proofs.gather.Goals as goal

pub loop-r-init : goal.loop-r-init
unfolding start_of
loop-r-init c = (refl, c.requires.2, record { starts = λ s h. absurd (omega arith) }, refl, λ i h. refl)

pub put-requires : goal.put-requires
put-requires c = let l = (well_formed _ c.requires.0).limits.productions_to in omega arith

pub tail-m-requires : goal.tail-m-requires
tail-m-requires c =
    let l = (well_formed _ c.requires.0).limits.productions_to in
    let i = c.loop-r.invariant in
    (c.requires.0, omega arith, i.0, omega arith, store_start _ _ _ _ _ (omega arith) (rw c.from.ensures at c.put.ensures) _ i.4 _ i.1)

pub overflow_add-s : goal.overflow_add-s
overflow_add-s c =
    let h : c.loop-r.r < productions c.args.c.now = omega arith in
    let f = right_fits _ c.loop-r.r c.requires.0 h in
    omega arith

pub loop-r-preserved : goal.loop-r-preserved
loop-r-preserved c =
    let l = (well_formed _ c.requires.0).limits.productions_to in
    let h : c.loop-r.r < 128 = omega arith in
    let i = c.loop-r.invariant in
    let put = rw c.from.ensures at c.put.ensures in
    let tail = c.tail-m.ensures in (
      start_more _ _ _ _ i.0 (c.from-s.ensures ∙ c.length.ensures),
      store_tail _ _ _ _ _ h put _ i.4 _ tail.1 _ tail.0,
      started_more _ _ _ _ _ h put _ i.4 _ tail.1 i.0 i.2,
      tail.1.long ∙ put.long ∙ i.3,
      tail_high c.args.c.now _ _ _ _ h put _ i.4 _ tail.1,
    )
