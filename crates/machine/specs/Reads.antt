-- The publisher's reading, defined for every table, input, step limit and three areas: it refuses and changes nothing, or is faithful. A choir's is that of Restricted.antt.
-- `reading` of ComputedRun.antt is the one reading of this kind: `reads_exactly` of proofs/ReadsLaws.antt.
use Rattle.std.specs.Prelude.{ℕ, ◌≡◌, ◌≢◌, List, length}
use Rattle.machine.specs.Checks.{refusal_of}
use Rattle.machine.specs.Report.{refused, Reading}
use Rattle.machine.specs.Faithful.{Faithful}

pub data Reads (t input stack list second : List ℕ) (limit : ℕ) : Reading → Type 0 where
  -- "All change nothing"
  refuses : {n : ℕ} → refusal_of t input (length stack) (length second) ≡ n → n ≢ 0
      → Reads t input stack list second limit (record { report = refused n; stack = stack; list = list; second = second })
  reads : {r : Reading} → refusal_of t input (length stack) (length second) ≡ 0 → Faithful t input stack list second limit r → Reads t input stack list second limit r
