use mathlib.Core.Path.{ap, ◌∙◌}
use Rattle.std.proofs.Common.{ℕ, get_or}
use Rattle.nonterminals.proofs.LengthLaws.{due_told}
use Rattle.nonterminals.proofs.due.Goals as goal

pub returns : goal.returns
returns c = λ k n R h. due_told k c.args.w c.args.r _ (ap (λ (i : ℕ). get_or c.args.v.now i 0) c.from.ensures ∙ R.words c.args.r h)
