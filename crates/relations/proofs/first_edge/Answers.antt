use Rattle.relations.proofs.first_edge.Goals as goal

pub returns-in-Includes : goal.returns-in-Includes
returns-in-Includes c = rw c.in-Includes.is c.first_includes.ensures
