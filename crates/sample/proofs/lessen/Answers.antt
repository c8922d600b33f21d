use Rattle.sample.proofs.RoundLaws.{lessen_both}
use Rattle.sample.proofs.lessen.Goals as goal

pub returns : goal.returns
returns c = (c.lessen-plain.ensures.0, lessen_both _ _ c.args.r c.lessen-used.ensures.1 c.lessen-plain.ensures.1)
