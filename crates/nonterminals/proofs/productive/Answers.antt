use Rattle.sets.proofs.HasLaws.{has_none}
use Rattle.nonterminals.proofs.GatherLaws.{productive_set}
use Rattle.nonterminals.proofs.productive.Goals as goal

pub settled-requires : goal.settled-requires
settled-requires c = (c.requires.0, c.requires.2, c.requires.1, λ j e. absurd (has_none j e))

pub returns : goal.returns
returns c = productive_set _ c.requires.0 c.settled.ensures
