use Rattle.merge.proofs.AnswerLaws.{merging}
use Rattle.merge.proofs.merge.Goals as goal

pub write-requires : goal.write-requires
write-requires c = merging _ _ _ c.in_ok-n.ensures
