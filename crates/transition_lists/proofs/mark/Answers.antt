use Rattle.transition_lists.proofs.WordLaws.{joined_one}
use Rattle.transition_lists.proofs.mark.Goals as goal

pub returns : goal.returns
returns c = joined_one _ _ _ _ c.if-v-eq0.false c.with.ensures
