use Rattle.std.proofs.Common.{◌≡◌, ◌+◌, ◌-◌, ◌<◌, refl, arith}
use Rattle.grammar.specs.Card.{productions}
use Rattle.nonterminals.specs.Lessening.{same}
use Rattle.nonterminals.proofs.LengthLaws.{to_start, to_more, lower_more}
use Rattle.nonterminals.proofs.lessen_all.Goals as goal

pub loop-r-init : goal.loop-r-init
loop-r-init c =
    let p = c.productions-r.ensures in
    (rw p (to_start _ _ c.requires.2), same refl refl, rw p c.end-s.ensures)

pub loop-r-preserved : goal.loop-r-preserved
loop-r-preserved c =
    let i = c.loop-r.invariant in
    let one_less : c.loop-r.r ≡ c.loop-r.r - 1 + 1 = omega arith in
    let below : c.loop-r.r - 1 < productions c.args.c.now = omega arith in
    (to_more _ _ (rw one_less at i.0) below c.requires.0 c.lessen_due-u.ensures, lower_more i.1 _ c.lessen_due-u.ensures, c.start_before-s.ensures)
