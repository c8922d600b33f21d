use Rattle.std.proofs.Common.{arith}
use Rattle.lookaheads.proofs.LookLaws.{joins_some}
use Rattle.lookaheads.proofs.join.Goals as goal

pub bounds-z-i : goal.bounds-z-i
bounds-z-i c = let o = c.requires.0 in omega (arith, (c.in-Some.ensures _ _ o.2).inside, o.2.few)

pub returns-in-Some : goal.returns-in-Some
returns-in-Some c = λ d k o. joins_some d _ _ k _ _ _ _ (c.in-Some.ensures d k o)
