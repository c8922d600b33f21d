-- The reader with a step limit and a count of w bits: "The allowance and the move count become 64 bits wide. A reading that ended under an old allowance
-- has the same end and count under that number now. One proof serves either width." `modulo` of proofs/Widths.antt proves, for every w, that this is the reading
-- of Reads.antt, which is over numbers of any size, under w bits of the limit.
use Rattle.std.specs.Prelude.{ℕ, ◌%◌, ◌^◌, ◌<◌, ◌≡◌, ◌≢◌, ◌↔◌, List, length}
use Rattle.machine.specs.Checks.{refusal_of}
use Rattle.machine.specs.Report.{refused, Reading}
use Rattle.machine.specs.ComputedRun.{Machine, ended, moved, accepted, action_of, moved_by, Outcome, start, reading_of}

-- a count is kept in w bits: one more than the largest is 0 (no reading comes to that, since it stops at the limit)
abbrev pub counting : ℕ → Machine → Machine
counting w m = record { stack = m.stack; list = m.list; depth = m.depth; listed = m.listed; position = m.position; steps = m.steps % 2 ^ w }

module _ (w : ℕ) (t input : List ℕ) (limit : ℕ) where
  -- the steps of the machine, each counted in w bits; before each the count is compared with the limit, of which w bits are taken
  pub data RunsIn : Machine → Outcome → Type 0 where
    wrong : {m : Machine} → action_of t input m ≡ 0 → RunsIn m (record { number = 31; final = m })
    spent : {m : Machine} → action_of t input m ≢ 0 → m.steps ≡ limit % 2 ^ w → RunsIn m (record { number = 32; final = m })
    stops : {m m' : Machine} {n : ℕ} → action_of t input m ≢ 0 → m.steps ≢ limit % 2 ^ w → moved_by t (action_of t input m) m ≡ ended n m'
        → RunsIn m (record { number = n; final = m' })
    accepts : {m m' : Machine} → action_of t input m ≢ 0 → m.steps ≢ limit % 2 ^ w → moved_by t (action_of t input m) m ≡ accepted m'
        → RunsIn m (record { number = 0; final = counting w m' })
    goes_on : {m m' : Machine} {o : Outcome} → action_of t input m ≢ 0 → m.steps ≢ limit % 2 ^ w → moved_by t (action_of t input m) m ≡ moved m'
        → RunsIn (counting w m') o → RunsIn m o

-- the whole reading: refused as ever, or run from state 0; fresh readings have "the same allowance", so w bits of the limit. Their own steps are reported nowhere,
-- and never pass that limit, so they are counted as numbers
pub data ReadsIn (w : ℕ) (t input stack list second : List ℕ) (limit : ℕ) : Reading → Type 0 where
  refuses : {n : ℕ} → refusal_of t input (length stack) (length second) ≡ n → n ≢ 0
      → ReadsIn w t input stack list second limit (record { report = refused n; stack = stack; list = list; second = second })
  reads : {o : Outcome} → refusal_of t input (length stack) (length second) ≡ 0 → RunsIn w t input limit (start stack list) o
      → ReadsIn w t input stack list second limit (reading_of t input (limit % 2 ^ w) (length second) o)

-- "A reading that ended under an old allowance has the same end and count under that number now": an old allowance is a number of 32 bits.
-- All of the reading is meant: end, counts and areas
abbrev pub OldLimits : Type 0
OldLimits =
    (t input stack list second : List ℕ) (limit : ℕ) → limit < 2 ^ 32 → (r : Reading) → ReadsIn 32 t input stack list second limit r ↔ ReadsIn 64 t input stack list second limit r
