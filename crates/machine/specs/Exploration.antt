-- The paper's fresh readings, which the field calls exploratory parses: readings by the same LR machine, one for each terminal, that say which can follow a line.
use Rattle.std.specs.Prelude.{ℕ, ◌+◌, ◌<◌, ◌≤◌, ◌≡◌, ◌≢◌, ◌↔◌, List, [], ◌∷◌, ◌++◌}
use Rattle.sets.specs.Bit.{Has}
use Rattle.tables.specs.Layout.{terminals}
use Rattle.machine.specs.LrMachine.{Config, conf, Path}
use Rattle.machine.specs.Stops.{Allowed, Stops}

-- "A fresh reading starts anew": from state 0, with the whole step limit ("the same allowance") and all places of the second area.
-- It comes to a configuration with so many steps left
pub record Comes (t : List ℕ) (limit second : ℕ) (input : List ℕ) (c : Config) (left : ℕ) : Type 0 where
  pub steps : ℕ
  pub most : ℕ
  pub path : Path t steps most (conf (0 ∷ []) input []) c
  pub within : most ≤ second
  pub budget : steps + left ≡ limit

-- what it may use there. "No rule list" is a list that is never full: each production listed is a step, so a list of as many places as the limit has steps
-- (`never_full` of proofs/Explorations.antt)
abbrev pub unlisted : ℕ → ℕ → ℕ → Allowed
unlisted limit second left = record { steps = left; stack = second; list = limit }

-- how the fresh reading for terminal m ends: 0 where it shifts m, or for 0 accepts, else the number on which it stops
pub data Explored (t : List ℕ) (limit second : ℕ) (line : List ℕ) : (m n : ℕ) → Type 0 where
  -- "over that line and m, and is over once it shifts m": nothing is ahead just when m has been shifted; what would come then does not matter
  shifts : {m left : ℕ} {qs out : List ℕ} → m ≢ 0 → Comes t limit second (line ++ m ∷ []) (conf qs [] out) left → Explored t limit second line m 0
  -- or it stops with m, or more, still to be read (not with 0: in a table that passes the checks only column 0 accepts)
  stops : {m n left : ℕ} {qs x out : List ℕ} → m ≢ 0 → x ≢ [] → Comes t limit second (line ++ m ∷ []) (conf qs x out) left
      → Stops t (unlisted limit second left) (conf qs x out) n → Explored t limit second line m n
  -- "for 0 it reads that line alone to its end"
  reads : {n left : ℕ} {c : Config} → Comes t limit second line c left → Stops t (unlisted limit second left) c n → Explored t limit second line 0 n

-- "a fresh reading stops on 32, 33 or 35"
pub data Cut : ℕ → Type 0 where
  no_steps_left : Cut 32
  no_place_left : Cut 33
  broken_off : Cut 35

-- "it is the marks that such a fresh reading shifts, or for 0 accepts", as a word; and no fresh reading is cut short.
-- The second area has a place, by 27 and 45: with none no reading would start
pub record Offer (t : List ℕ) (limit second : ℕ) (line : List ℕ) (word : ℕ) : Type 0 where
  pub members : (m : ℕ) → Has word m ↔ ((m < terminals t) × Explored t limit second line m 0)
  pub uncut : (m n : ℕ) → m < terminals t → Explored t limit second line m n → Cut n → ⊥

-- some fresh reading is cut short
pub record CutShort (t : List ℕ) (limit second : ℕ) (line : List ℕ) : Type 0 where
  pub terminal : ℕ
  pub number : ℕ
  pub below : terminal < terminals t
  pub ends : Explored t limit second line terminal number
  pub cut : Cut number
