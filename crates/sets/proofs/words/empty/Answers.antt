use Rattle.sets.proofs.WordLaws.{empty_of}
use Rattle.sets.proofs.words.empty.Goals as goal

pub returns : goal.returns
returns g c = empty_of g.row.N
