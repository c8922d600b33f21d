-- What a table of allowed sizes that is long enough can be refused with.
use Prim.Native.Nat.{ℕ, ◌≤◌}
use mathlib.Core.Path.{◌≡◌}
use mathlib.Core.List.{List}
use native.Mathlib.Omega.{arith}
use lib.ListN.{length}
use borrow.Author.Tests.{le-leb}
use Rattle.sets.specs.Tests.{unless}
use Rattle.tables.specs.Layout.{size_of}
use Rattle.tables.specs.declared.Shape.{Shape}
use Rattle.machine.specs.Checks.{productions_ok, cells_ok, entries_ok, table_refusal}
use Rattle.cell_checks.specs.Rows.{Whole}

four : {t : List ℕ} {z : Shape} → Whole t z → 4 ≤ length t
unfolding size_of
four w = let l = w.whole in omega arith

-- only with 23, 24 and 44
pub of_parts : {t : List ℕ} {z : Shape} → Whole t z → table_refusal t ≡ unless (productions_ok t) 23 (unless (cells_ok t) 24 (unless (entries_ok t) 44 0))
unfolding table_refusal
of_parts {t} w = rw (le-leb 4 (length t) (four w), w.sizes, le-leb (size_of t) (length t) w.whole)
