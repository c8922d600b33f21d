use Rattle.std.proofs.Common.{ℕ, ◌-◌, ap, ◌∙◌}
use Rattle.transitions.specs.Area.{last_of}
use Rattle.relations.proofs.ReadLaws.{same_count}
use Rattle.relations.proofs.IncludeLaws.{latest_of, includes_first}
use Rattle.relations.proofs.first_includes.Goals as goal

pub returns : goal.returns
returns c = λ k O. includes_first _ _ k _ O _
    (latest_of _ _ k _ O _ _ (rw (same_count _ _ k _ O c.requires.ordered) at c.requires.below) (c.from-t.ensures ∙ c.terminals.ensures) (c.last-at.ensures ∙ ap (λ (z : ℕ). last_of c.args.w.now (z - c.from-t.result)) c.nonterminal.ensures))
    (rw c.leaves.ensures at c.opened-set.ensures)
