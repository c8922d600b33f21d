-- A read that a signal interrupts keeps the reader's bytes, and brings none.
use Rattle.card_input.proofs.Parts.{kept}
use Rattle.card_input.proofs.read_some.Goals as goal

pub returns-in-Err : goal.returns-in-Err
returns-in-Err g c = kept _ _ _ c.in-Err.ensures.bytes
