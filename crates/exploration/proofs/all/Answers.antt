use Rattle.exploration.proofs.Words.{all_has}
use Rattle.exploration.proofs.all.Goals as goal

pub returns : goal.returns
returns c = λ m. all_has c.args.n m c.requires.1
