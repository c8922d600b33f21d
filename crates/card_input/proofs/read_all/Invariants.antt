-- The scan stands behind the bytes that have left the reader.
use Rattle.decimal.specs.Scanning.{fed_of}
use Rattle.card_input.specs.Reading.{FedMore}
use Rattle.card_input.proofs.read_all.Given as goal

abbrev pub invariant-loop : goal.invariant-loop
invariant-loop g l = FedMore (g.R.Read.remaining l.initial.input) (g.R.Read.remaining l.input) (fed_of l.initial.card l.initial.s) (fed_of l.card l.s)
