use Rattle.nonterminals.specs.Gathering.{Productive}
use Rattle.nonterminals.proofs.productive.Given as goal

abbrev pub ghost-settled : goal.ghost-settled
ghost-settled a = Productive
