use mathlib.Core.Path.{refl, sym, ◌∙◌}
use mathlib.Core.Bool.{false≢true}
use Rattle.std.proofs.Common.{arith}
use Rattle.grammar.proofs.CardLaws.{well_formed}
use Rattle.nonterminals.specs.Lessening.{passed_over}
use Rattle.nonterminals.proofs.lessen_due.Goals as goal

pub due-requires : goal.due-requires
due-requires c = omega (arith, (well_formed _ c.requires.0).limits.productions_to)

pub returns : goal.returns
returns c = passed_over (λ d. false≢true (sym c.if-due.false ∙ c.due.ensures _ _ c.requires.4 c.requires.1 d)) refl refl
