use Rattle.std.proofs.Common.{arith}
use Rattle.transition_lists.specs.Stores.Celled.{vacant, terminal, many, listed}
use Rattle.transition_lists.proofs.cell.Goals as goal
use Rattle.transition_lists.proofs.cell.Goals.{then-k-lt-LIMIT, else-k-lt-LIMIT}

pub returns-then-v-eq0 : goal.returns-then-v-eq0
returns-then-v-eq0 c = vacant c.if-v-eq0.true

pub returns-then-x-t : goal.returns-then-x-t
returns-then-x-t c = terminal _ c.if-v-eq0.false c.if-x-t.true c.note.ensures

pub returns : goal.returns
returns c =
    elim c.if-k-lt-LIMIT.branch [
      | then-k-lt-LIMIT w ↦ rw w.w-is (listed _ _ c.if-v-eq0.false c.if-x-t.false (omega arith) c.note.ensures w.place.ensures)
      | else-k-lt-LIMIT w ↦ rw w.w-is (many _ c.if-v-eq0.false c.if-x-t.false (omega arith) c.note.ensures)
    ]
