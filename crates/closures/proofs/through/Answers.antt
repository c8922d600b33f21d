use Rattle.std.proofs.Common.{sym, ◌∙◌}
use Rattle.closures.proofs.LeadLaws.{through_taken}
use Rattle.closures.proofs.through.Goals as goal

pub returns-then-has : goal.returns-then-has
returns-then-has c = through_taken _ _ _ (sym c.has.ensures ∙ c.if-has.true)
