use Rattle.lookaheads.proofs.LookLaws.{key_some}
use Rattle.lookaheads.proofs.key.Goals as goal

pub returns-else-d-eq0 : goal.returns-else-d-eq0
returns-else-d-eq0 c = λ eb ed. key_some _ _ _ _ _ _ ed c.if-d-eq0.false eb c.symbol.ensures c.from-else-d-eq0.ensures
