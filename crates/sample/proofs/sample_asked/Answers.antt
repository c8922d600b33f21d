use Rattle.sample.proofs.AnswerLaws.{answered}
use Rattle.sample.proofs.sample_asked.Goals as goal

pub returns : goal.returns
returns c = rw c.ok_or.ensures.value (answered c.requires c.find.ensures)
