-- As many bytes of the word are written as the loop has passed.
use Rattle.std.proofs.Common.{take}
use Rattle.decimal.specs.Writing.{Wrote}
use Rattle.decimal.proofs.writer.Page.word.Given as goal

abbrev pub invariant-loop-b : goal.invariant-loop-b
invariant-loop-b l = Wrote l.initial.self (take l.b-index l.text) l.self
