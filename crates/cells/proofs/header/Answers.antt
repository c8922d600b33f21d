use Rattle.cells.proofs.AreaLaws.{headed}
use Rattle.cells.proofs.header.Goals as goal

pub returns : goal.returns
returns c = headed _ _ _ _ _ _ _ c.terminals.ensures c.nonterminals.ensures c.productions-p.ensures c.requires c.arrays.ensures
