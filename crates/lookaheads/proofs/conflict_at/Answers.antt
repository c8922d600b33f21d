use Rattle.std.proofs.Common.{refl, ap, ◌∙◌}
use Rattle.areas.specs.Areas.{row_of}
use Rattle.lookaheads.proofs.RowLaws.{cell_at, conflict_named}
use Rattle.lookaheads.proofs.conflict_at.Goals as goal

pub returns : goal.returns
returns c = λ w z n k next numbered looks below e two.
    conflict_named _ _ _ n k next _ _ _ _ _ _ _ _ _ numbered below refl c.from-3.ensures (c.from-p.ensures ∙ c.productions.ensures)
    (c.at-s.ensures ∙ cell_at c.args.t.now (c.row.ensures ∙ ap (row_of _) c.from.ensures) c.from-2.ensures ∙ e) looks c.pair-met.ensures two
