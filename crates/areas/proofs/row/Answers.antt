use Rattle.std.proofs.Common.{arith, ap, ◌∙◌}
use Rattle.tables.specs.Layout.{header_size}
use Rattle.areas.proofs.RowLaws.{row_is}
use Rattle.areas.proofs.row.Goals as goal

-- the place by the numbers read
pub returns : goal.returns
returns c = row_is _ _ (c.from.ensures ∙ c.terminals.ensures) (c.from-2.ensures ∙ c.nonterminals.ensures) (c.header_size.ensures ∙ ap header_size (c.from-3.ensures ∙ c.productions.ensures))

pub overflow_mul-result : goal.overflow_mul-result
overflow_mul-result c = omega (arith, returns c, c.requires)

pub overflow_add-result : goal.overflow_add-result
overflow_add-result c = omega (arith, returns c, c.requires)
