-- From what was found to the answer.
use mathlib.Core.List.{List}
use Prim.Native.Nat.{ℕ}
use lib.ListN.{length}
use Rattle.std.specs.Prelude.{Option, ok_or}
use Rattle.sample.specs.Search.{Finds, found, none}
use Rattle.sample.specs.Answer.{Asked, Samples, too_long, made}
use Rattle.sample.specs.declared.Refusal.TheVariants.{TooLong}

pub answered : {c : List ℕ} {r : ℕ} {old new : List ℕ} → Asked c r (length old) → {o : Option ℕ} → Finds c r old o new → Samples c r old (ok_or o TooLong) new
answered a (found w s l) = made w a s l
answered a (none f) = too_long a f
