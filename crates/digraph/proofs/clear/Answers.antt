use Rattle.std.proofs.Common.{arith}
use Rattle.digraph.proofs.Steps.{zeroed}
use Rattle.digraph.proofs.clear.Goals as goal

pub returns : goal.returns
returns c = zeroed _ _ _ _ c.requires.0 c.requires.1 (omega arith) (c.fill.ensures.after (λ y e. e))
