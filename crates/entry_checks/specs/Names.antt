-- Cells that name no state, as the code tells them.
use Rattle.std.specs.Prelude.{ℕ, Bool, ◌||◌, leb, eqb}

-- a cell that names no state below q: 0, or no state at all
unfoldable pub unnamed : ℕ → ℕ → Bool
unnamed q v = eqb v 0 || leb q v
