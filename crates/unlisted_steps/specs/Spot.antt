-- Where an exploratory parse stands in its stack area, and what a shift or a reduction makes of it.
use Rattle.std.specs.Prelude.{ℕ, ◌+◌, ◌≤◌, ◌<◌, ◌≡◌, List, ◌∷◌, reverse, length, drop, take, Result, Ok, Err}
use Rattle.tables.specs.Layout.{states, cell_of, left_of, length_of}
use Rattle.tables.specs.Shape.{Shaped}
use Rattle.tables.specs.declared.Shape.{Shape}
use Rattle.machine.specs.LrMachine as machine
use Rattle.machine.proofs.Checked.{Checked}
use Rattle.machine.proofs.Shifts.{Below}
use Rattle.unlisted_steps.specs.declared.Spot.{Spot}
use Rattle.unlisted_steps.specs.declared.Stop.{Stop}
use Rattle.unlisted_steps.specs.declared.Stop.TheVariants.{Full, Broken}

-- a checked table of the sizes z and the rows cs
pub record Readable (t cs : List ℕ) (z : Shape) : Type 0 where
  pub checked : Checked t
  pub shaped : Shaped t z
  pub rows : cs ≡ drop z.cells t

-- the used places of the area st hold the stack q ∷ qs, from the bottom up; what lies above is left over from before and means nothing
pub record Stands (t st : List ℕ) (s : Spot) (q : ℕ) (qs : List ℕ) : Type 0 where
  pub deep : s.depth ≡ length (q ∷ qs)
  pub within : s.depth ≤ length st
  pub stacked : take s.depth st ≡ reverse (q ∷ qs)
  pub top_is : s.top ≡ q
  pub below : Below (states t) (q ∷ qs)

-- some stack
pub record Standing (t st : List ℕ) (s : Spot) : Type 0 where
  pub state : ℕ
  pub under : List ℕ
  pub stands : Stands t st s state under

-- what comes of a shift to state a; st is the area at its exit
pub data Shifts (t st : List ℕ) (s : Spot) (q : ℕ) (qs : List ℕ) (a : ℕ) : Result Spot Stop → Type 0 where
  moved : {n : Spot} → Stands t st n a (q ∷ qs) → n.left + 1 ≡ s.left → Shifts t st s q qs a (Ok n)
  full : length (q ∷ qs) ≡ length st → Shifts t st s q qs a (Err Full)

-- what comes of a reduction by production r
pub data Reduces (t st : List ℕ) (s : Spot) (q : ℕ) (qs : List ℕ) (r : ℕ) : Result Spot Stop → Type 0 where
  moved : {n : Spot} (p : ℕ) (ps : List ℕ) → drop (length_of t r) (q ∷ qs) ≡ p ∷ ps → 0 < cell_of t p (left_of t r) → Stands t st n (cell_of t p (left_of t r)) (p ∷ ps) → n.left + 1 ≡ s.left
      → Reduces t st s q qs r (Ok n)
  full : (p : ℕ) (ps : List ℕ) → drop (length_of t r) (q ∷ qs) ≡ p ∷ ps → 0 < cell_of t p (left_of t r) → length (p ∷ ps) ≡ length st → Reduces t st s q qs r (Err Full)
  broken : machine.Broken t r (q ∷ qs) → Reduces t st s q qs r (Err Broken)
