use mathlib.Core.Path.{sym, ◌∙◌}
use Rattle.grammar.proofs.CardLaws.{well_formed}
use Rattle.nonterminals.proofs.end.Goals as goal

pub returns : goal.returns
returns c = c.from.ensures ∙ c.symbols.ensures ∙ sym (well_formed _ c.requires).sum
