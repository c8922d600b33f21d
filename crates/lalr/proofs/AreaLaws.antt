-- What the definition of the areas says: lengths are kept, the table stands in front, and a refusal of 1 to 10 changes nothing.
use mathlib.Core.Path.{◌≡◌}
use mathlib.Core.Bool.{false}
use mathlib.Core.List.{List, ◌++◌}
use Prim.Native.Nat.{ℕ, ◌+◌, ◌-◌}
use lib.ListN.{length, drop, replicate}
use Rattle.sets.specs.Lists.{covered}
use Rattle.areas.specs.Areas.{table_size}
use Rattle.lalr.specs.Answer.{made}
use Rattle.lalr.specs.ComputedAnswer.{table_of}
use Rattle.lalr.specs.ComputedGenerator.{answer_of, writes, generated}

-- the table area holds the table, and what stands behind it
pub made_area : (t z w c : List ℕ) → answer_of (length t) (length z) (length w) c ≡ made → (generated t z w c).table ≡ table_of c ++ (replicate (table_size - length (table_of c)) 0 ++ drop table_size t)
unfolding generated covered
made_area t z w c e = rw e

pub untouched : (t z w c : List ℕ) → writes (answer_of (length t) (length z) (length w) c) ≡ false
    → ((generated t z w c).table ≡ t) × ((generated t z w c).words ≡ z) × ((generated t z w c).halves ≡ w)
unfolding generated
untouched t z w c e = (rw e, rw e, rw e)
