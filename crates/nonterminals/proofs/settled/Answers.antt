use Rattle.nonterminals.proofs.GatherLaws.{round_less}
use Rattle.nonterminals.proofs.settled.Goals as goal

pub loop-t-smaller : goal.loop-t-smaller
loop-t-smaller g c = round_less _ c.requires.0 _ _ _ c.loop-t.invariant.1 c.round-u.ensures c.if-u-t.false
