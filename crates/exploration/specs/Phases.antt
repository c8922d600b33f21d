-- What the parts of an exploration hand on to each other. Only private functions cite this.
use Rattle.std.specs.Prelude.{ℕ, ◌-◌, ◌^◌, ◌<◌, ◌≤◌, ◌≡◌, ◌≢◌, List, [], Option, Some, None, Result, Ok, Err}
use Rattle.std.specs.Int.Bits.{bit_or}
use Rattle.sets.specs.Bit.{Has}
use Rattle.tables.specs.Layout.{terminals, reduction, accept}
use Rattle.machine.specs.Exploration.{Explored, Cut as IsCut}
use Rattle.machine.specs.Restricted.{Open}
use Rattle.unlisted_steps.specs.declared.Spot.{Spot}
use Rattle.exploration.specs.Reaches.{Reaches}
use Rattle.exploration.specs.declared.Cut.{Cut}
use Rattle.exploration.specs.declared.Sorted.{Sorted}
use Rattle.exploration.specs.declared.Passed.{Passed}

-- no terminal can follow: each fresh reading ends in 31
abbrev pub NoneFollows : List ℕ → ℕ → ℕ → List ℕ → Type 0
NoneFollows t limit places line = (m : ℕ) → m < terminals t → Explored t limit places line m 31

-- the fresh reading for m is cut short
pub record CutFor (t : List ℕ) (limit places : ℕ) (line : List ℕ) (m : ℕ) : Type 0 where
  pub number : ℕ
  pub ends : Explored t limit places line m number
  pub cut : IsCut number

-- what comes of reading the line alone, as the fresh reading for 0 does; st is the second area then
abbrev pub Arrives : List ℕ → ℕ → ℕ → List ℕ → List ℕ → Result (Option Spot) Cut → Type 0
Arrives t limit places line st (Ok (Some s)) = Reaches t limit places line st [] s
Arrives t limit places line st (Ok None) = NoneFollows t limit places line
Arrives t limit places line st (Err _) = CutFor t limit places line 0

-- no step is left for the action a, or no place for it as a shift
pub data Short (s : Spot) (places a : ℕ) : Type 0 where
  no_steps : s.left ≡ 0 → Short s places a
  no_place : 0 < s.left → a < 1024 → places ≤ s.depth → Short s places a

-- the terminal m with the action a, which is not 0, is put to the others
pub data Puts (r : Sorted) (m a : ℕ) : Sorted → Type 0 where
  shifts : a < 1024 → Puts r m a (record { found = bit_or r.found (2 ^ m); same = r.same; later = r.later; production = r.production })
  accepts : a ≡ accept → Puts r m a (record { found = bit_or r.found (2 ^ m); same = r.same; later = r.later; production = r.production })
  first : 1024 ≤ a → a ≢ accept → r.same ≡ 0 → Puts r m a (record { found = r.found; same = bit_or 0 (2 ^ m); later = r.later; production = a - 1024 })
  again : 1024 ≤ a → a ≢ accept → r.production ≡ a - 1024 → Puts r m a (record { found = r.found; same = bit_or r.same (2 ^ m); later = r.later; production = r.production })
  -- behind one that asks for another reduction
  aside : (j : ℕ) → Has r.same j → Puts r m a (record { found = r.found; same = r.same; later = bit_or r.later (2 ^ m); production = r.production })

-- the action a can be made, and ends a fresh reading well
pub data Found (s : Spot) (places a : ℕ) : Type 0 where
  shifts : 0 < s.left → 0 < a → a < 1024 → s.depth < places → Found s places a
  accepts : 0 < s.left → a ≡ accept → Found s places a

-- the terminals of a group by their cells in the row of the top state
pub record Apart (row : ℕ → ℕ) (s : Spot) (places group : ℕ) (r : Sorted) : Type 0 where
  pub ends : (m : ℕ) → Has r.found m → Has group m × Found s places (row m)
  pub asks : (m : ℕ) → Has r.same m → Has group m × (0 < s.left) × (row m ≡ reduction r.production) × (reduction r.production ≢ accept)
  -- never the lowest
  pub behind : (m : ℕ) → Has r.later m → Has group m × (j : ℕ) × (j < m) × Has group j
  pub none : (m : ℕ) → Has group m → (Has r.found m → ⊥) → (Has r.same m → ⊥) → (Has r.later m → ⊥) → row m ≡ 0

-- the action of a terminal of the group cannot be made
pub record Stuck (row : ℕ → ℕ) (s : Spot) (places group : ℕ) : Type 0 where
  pub terminal : ℕ
  pub member : Has group terminal
  pub some : row terminal ≢ 0
  pub why : Short s places (row terminal)

abbrev pub Sorts : (ℕ → ℕ) → Spot → ℕ → ℕ → Result Sorted Cut → Type 0
Sorts row s places group (Ok r) = Apart row s places group r
Sorts row s places group (Err _) = Stuck row s places group

-- a pass decides each terminal of todo or leaves it, and never leaves the lowest
pub record Decides (t : List ℕ) (limit places : ℕ) (line : List ℕ) (todo found later : ℕ) : Type 0 where
  pub offered : (m : ℕ) → Has found m → Has todo m × Explored t limit places line m 0
  pub behind : (m : ℕ) → Has later m → Has todo m × (j : ℕ) × (j < m) × Has todo j
  pub left_out : (m : ℕ) → Has todo m → (Has found m → ⊥) → (Has later m → ⊥) → Explored t limit places line m 31

-- a pass is cut short: on the line, or behind it at a terminal of todo
pub data PassCut (t : List ℕ) (limit places : ℕ) (line : List ℕ) (todo : ℕ) : Type 0 where
  on_line : CutFor t limit places line 0 → PassCut t limit places line todo
  behind_line : {m : ℕ} → Has todo m → CutFor t limit places line m → PassCut t limit places line todo

abbrev pub Passes : List ℕ → ℕ → ℕ → List ℕ → ℕ → Result (Option Passed) Cut → Type 0
Passes t limit places line todo (Ok (Some p)) = Decides t limit places line todo p.found p.later
Passes t limit places line todo (Ok None) = NoneFollows t limit places line
Passes t limit places line todo (Err _) = PassCut t limit places line todo

-- between passes: each open terminal is found, wrong, or still to be decided
pub record Deciding (t : List ℕ) (closed limit places : ℕ) (line : List ℕ) (todo found : ℕ) : Type 0 where
  pub fits : todo < 2 ^ 64
  pub unclosed : (m : ℕ) → Has todo m → (m < terminals t) × Open closed m
  pub offered : (m : ℕ) → Has found m → (m < terminals t) × Open closed m × Explored t limit places line m 0
  pub left_out : (m : ℕ) → m < terminals t → Open closed m → (Has found m → ⊥) → (Has todo m → ⊥) → Explored t limit places line m 31
