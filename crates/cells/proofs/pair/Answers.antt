use Rattle.std.proofs.Common.{◌+◌, ◌≡◌, None, MatchOption, rules}
use Rattle.cells.specs.Words.{Sought}
use Rattle.cells.proofs.WordLaws.{sought_behind, lowest_shift, lowest_others}
use Rattle.cells.proofs.pair.Goals as goal

pub returns-then-s-ne0 : goal.returns-then-s-ne0
returns-then-s-ne0 c = λ accept small two. rw c.number-a.ensures (lowest_shift _ _ _ accept _ c.requires small _ c.if-s-ne0.true c.lowest-first.ensures two)

pub returns : goal.returns
returns c = λ accept small two.
    let second : MatchOption c.lowest-first.result (c.and_then-second.result ≡ None) (λ r. Sought c.args.p c.args.words.now c.args.m (r + 1) c.and_then-second.result) = search rules in
    rw (c.number-a.ensures, c.number.ensures)
    (lowest_others _ _ _ accept _ c.requires small _ _ c.if-s-ne0.false c.lowest-first.ensures (sought_behind _ c.args.s _ accept _ c.requires small _ _ second) two)
