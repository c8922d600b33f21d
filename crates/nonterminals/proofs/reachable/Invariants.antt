use Rattle.nonterminals.specs.Gathering.{Reachable}
use Rattle.nonterminals.proofs.reachable.Given as goal

abbrev pub ghost-settled : goal.ghost-settled
ghost-settled a = Reachable
