-- Where the fresh readings stand when a part of the line is read. The public functions cite this.
use Rattle.std.specs.Prelude.{ℕ, ◌≡◌, List, ◌∷◌, ◌++◌, length}
use Rattle.machine.specs.LrMachine.{conf}
use Rattle.machine.specs.Exploration.{Comes}
use Rattle.unlisted_steps.specs.Spot.{Stands}
use Rattle.unlisted_steps.specs.declared.Spot.{Spot}

-- All fresh readings of the line, with whatever behind it, come to the spot s, by the steps that s has fewer left than the limit, and in no more stack places than there are.
-- The second area st has the stack of s at its bottom, and of the line the terminals ahead are still to be read.
pub record Reaches (t : List ℕ) (limit places : ℕ) (line st ahead : List ℕ) (s : Spot) : Type 0 where
  pub state : ℕ
  pub under : List ℕ
  pub listed : List ℕ
  pub long : length st ≡ places
  pub stands : Stands t st s state under
  pub comes : (y : List ℕ) → Comes t limit places (line ++ y) (conf (state ∷ under) (ahead ++ y) listed) s.left
