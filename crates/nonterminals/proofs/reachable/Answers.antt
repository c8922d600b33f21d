use Rattle.nonterminals.proofs.GatherLaws.{start_sound, reachable_set}
use Rattle.nonterminals.proofs.reachable.Goals as goal

pub settled-requires : goal.settled-requires
settled-requires c = (c.requires.0, c.requires.1, c.requires.2, start_sound _ c.requires.0)

pub returns : goal.returns
returns c = reachable_set _ c.requires.0 c.settled.ensures
