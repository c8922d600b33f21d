-- Demand 2 for the reader: a reading that is not refused makes the steps of the LR machine, each end comes only where the paper has it come,
-- and the report and the areas are then those of the machine: `faithful` and `only_reading` of proofs/ReadsLaws.antt.
use Rattle.std.specs.Prelude.{ℕ, ◌+◌, ◌≤◌, ◌≡◌, ◌≢◌, List, [], ◌∷◌, ◌++◌, reverse, length, drop, replicate}
use Rattle.sets.specs.Bit.{bit, count}
use Rattle.sets.specs.Lists.{covered}
use Rattle.tables.specs.Layout.{terminals}
use Rattle.machine.specs.LrMachine.{Config, conf, depth, listed, Path, own_steps}
pub use Rattle.machine.specs.Stops.{Allowed, Stops, accepted_here, wrong_here, no_steps, list_full, broken_here, stack_full}
use Rattle.machine.specs.Exploration.{Offer, CutShort}
use Rattle.machine.specs.Report.{Report, ended, wrong_at_is, unknown_at_is, Reading}

-- what is reported after so many steps at a configuration with the end of a number; k is the length of the second area
pub data Reports (t input : List ℕ) (limit k steps : ℕ) : Config → ℕ → Report → Type 0 where
  counts : {c : Config} (n : ℕ) → n ≢ 31 → Reports t input limit k steps c n (ended n (steps + own_steps n) (depth c) (listed c))
  -- 31: "place from 0", which is the length of the line before it, and the offer as a word, "and how many they are"
  expects : {qs x out : List ℕ} (line : List ℕ) (word : ℕ) → line ++ x ≡ input → Offer t limit k line word
      → Reports t input limit k steps (conf qs x out) 31 (wrong_at_is steps (length qs) (length out) (length line) word (count (bit word) (terminals t)))
  -- "46 in place of 31 when a fresh reading stops on 32, 33 or 35"
  unknown : {qs x out : List ℕ} (line : List ℕ) → line ++ x ≡ input → CutShort t limit k line
      → Reports t input limit k steps (conf qs x out) 31 (unknown_at_is steps (length qs) (length out) (length line))

pub record Faithful (t input stack list second : List ℕ) (limit : ℕ) (r : Reading) : Type 0 where
  -- so many steps lead from state 0 before the whole input to this configuration
  pub steps : ℕ
  pub most : ℕ
  pub states : List ℕ
  pub ahead : List ℕ
  pub productions : List ℕ
  pub path : Path t steps most (conf (0 ∷ []) input []) (conf states ahead productions)
  -- within stack and list on the way
  pub within : most ≤ length stack
  pub room : length productions ≤ length list
  -- there the machine stops, with what is left of the step limit
  pub left : ℕ
  pub budget : steps + left ≡ limit
  pub number : ℕ
  pub why : Stops t (record { steps = left; stack = length stack; list = length list }) (conf states ahead productions) number
  -- the report is of that place
  pub reported : Reports t input limit (length second) steps (conf states ahead productions) number r.report
  -- "used places of stack and list hold states and rules", "a place popped becomes 0", "never-used places are unchanged"
  pub stacked : r.stack ≡ covered most (reverse states) stack
  pub listing : r.list ≡ productions ++ drop (length productions) list
  -- "a second stack area, zero over its whole length after any end"
  pub cleared : r.second ≡ replicate (length second) 0
