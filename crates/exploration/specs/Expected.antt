-- What an exploration answers.
use Rattle.std.specs.Prelude.{ℕ, List, Result, Ok, Err}
use Rattle.machine.specs.Restricted.{OpenOffer, OpenCutShort}
use Rattle.exploration.specs.declared.Cut.{Cut}

-- the offer, or that some fresh reading of an open terminal is cut short
abbrev pub Explores : List ℕ → ℕ → ℕ → ℕ → List ℕ → Result ℕ Cut → Type 0
Explores t closed limit second line (Ok word) = OpenOffer t closed limit second line word
Explores t closed limit second line (Err _) = OpenCutShort t closed limit second line
