use Rattle.merge.proofs.AnswerLaws.{about_told}
use Rattle.merge.proofs.about.Goals as goal

pub returns : goal.returns
returns c = about_told _ c.args.e _ c.numbers-n.ensures
