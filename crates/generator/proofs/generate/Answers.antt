use Rattle.generator.proofs.Front.{first, second, third, card_refused, checked}
use Rattle.generator.proofs.generate.Goals as goal

pub returns-then-table-lt-TABLE : goal.returns-then-table-lt-TABLE
returns-then-table-lt-TABLE c = first _ _ _ _ c.if-table-lt-TABLE.true

pub returns-then-words-lt-WORDS : goal.returns-then-words-lt-WORDS
returns-then-words-lt-WORDS c = second _ _ _ _ c.if-table-lt-TABLE.false c.if-words-lt-WORDS.true

pub returns-then-halves-lt-HALVES : goal.returns-then-halves-lt-HALVES
returns-then-halves-lt-HALVES c = third _ _ _ _ c.if-table-lt-TABLE.false c.if-words-lt-WORDS.false c.if-halves-lt-HALVES.true

pub returns-in_err-check : goal.returns-in_err-check
returns-in_err-check c =
    card_refused _ _ _ _ c.in_err-check.field-0.0 _ c.from_residual.ensures.1 c.in_err-check.ensures
    (record { table = c.if-table-lt-TABLE.false; words = c.if-words-lt-WORDS.false; halves = c.if-halves-lt-HALVES.false })

pub make-requires : goal.make-requires
make-requires c =
    let p = checked _ c.in_ok-check.ensures in
    (p.0, p.1, record { table = c.if-table-lt-TABLE.false; words = c.if-words-lt-WORDS.false; halves = c.if-halves-lt-HALVES.false })
