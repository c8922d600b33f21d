use Rattle.std.proofs.Common.{sym, ◌∙◌, length}
use borrow.Author.Tests.{le-leb, lt-leb}
use Rattle.grammar.specs.Card.{form_fault}
use Rattle.card.proofs.form_fault.Goals as goal

pub returns-then-c-lt4 : goal.returns-then-c-lt4
unfolding form_fault
returns-then-c-lt4 c = rw (lt-leb 4 (length _) c.if-c-lt4.true)

pub returns-then-not-sizes_ok : goal.returns-then-not-sizes_ok
unfolding form_fault
returns-then-not-sizes_ok c =
    rw (le-leb 4 (length _) c.if-c-lt4.false, sym c.sizes_ok.ensures ∙ c.if-not-sizes_ok.true)

pub returns-then-not-length_ok : goal.returns-then-not-length_ok
unfolding form_fault
returns-then-not-length_ok c =
    rw (
      le-leb 4 (length _) c.if-c-lt4.false,
      sym c.sizes_ok.ensures ∙ c.if-not-sizes_ok.false,
      sym c.length_ok.ensures ∙ c.if-not-length_ok.true,
    )
