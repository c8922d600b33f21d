-- The tests of the sizes, as the code makes them from the shape, are the paper's.
use mathlib.Core.Path.{◌≡◌}
use Rattle.std.proofs.Common.{arith, ℕ, ◌-◌, List, Bool, false, ◌&&◌}
use Rattle.std.specs.declared.ops.RangeInclusive.{RangeInclusive}
use Rattle.std.specs.Range.{range_inclusive_start, range_inclusive_end, range_inclusive_exhausted, range_inclusive_contains}
use Rattle.std.specs.contracts.prelude.UsizePartialOrd.TheImpl as usize_order
use Rattle.sets.specs.Tests.{between}
use Rattle.tables.specs.Shape.{Shaped}
use Rattle.tables.specs.declared.Shape.{Shape}
use Rattle.tables.proofs.Places.{nonterminals_of_is}
use Rattle.machine.specs.Checks.{sizes_ok}

-- a range tells whether a number is between its ends
pub in_range : {lo hi : ℕ} (x : ℕ) {s : RangeInclusive ℕ} {b : Bool} → range_inclusive_start s ≡ lo → range_inclusive_end s ≡ hi → range_inclusive_exhausted s ≡ false
    → b ≡ range_inclusive_contains (usize_order.partial_cmp-value).it s x → b ≡ between lo hi x
unfolding between
in_range x el eh ex e = grind arith

-- the four tests of 22
pub sizes_are : {t : List ℕ} {z : Shape} {a b c d : Bool} → Shaped t z
    → a ≡ between 1 256 z.states → b ≡ between 1 64 z.terminals → c ≡ between 1 60 (z.width - z.terminals) → d ≡ between 1 128 z.productions
    → (((a && b) && c) && d) ≡ sizes_ok t
unfolding sizes_ok
sizes_are s ea eb ec ed = let e = nonterminals_of_is s in grind (arith, s.states_are, s.terminals_are, s.productions_are)
