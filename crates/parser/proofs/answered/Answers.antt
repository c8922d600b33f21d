use Rattle.parser.proofs.Whole.{wrong_is}
use Rattle.parser.proofs.answered.Goals as goal

pub returns-in-Wrong : goal.returns-in-Wrong
returns-in-Wrong c = λ o s. wrong_is c.in-Wrong.is c.explored.ensures s
