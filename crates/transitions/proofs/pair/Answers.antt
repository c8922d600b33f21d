use Rattle.std.proofs.Common.{◌∙◌, arith}
use Rattle.transitions.proofs.PairLaws.{paired_of}
use Rattle.transitions.proofs.pair.Goals as goal

pub returns : goal.returns
returns c = paired_of _ _ _ _ (c.from.ensures ∙ c.at.ensures) (c.from-2.ensures ∙ c.at-2.ensures) (omega arith)
