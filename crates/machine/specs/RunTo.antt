-- A run up to a bar: what the parser's loop computes. No definition of the reader rests on it; `run_to_whole` of proofs/RunLaws.antt and `run_to_masked` of
-- proofs/RunTo.antt say which run it is.
use Rattle.std.specs.Prelude.{ℕ, zero, suc, Bool, cond, not, ◌&&◌, List, length, ltb, eqb}
use Rattle.machine.specs.ComputedRun.{Machine, action_of, moved_by, Outcome, after}

-- the action over a line; where a closed terminal stands behind the line it is 0 there
unfoldable pub action_to : List ℕ → List ℕ → Bool → Machine → ℕ
action_to t line barred m = cond (barred && not (ltb m.position (length line))) 0 (action_of t line m)

unfoldable pub run_to : List ℕ → List ℕ → Bool → ℕ → Machine → Outcome
run_to t line barred zero m = cond (eqb (action_to t line barred m) 0) (record { number = 31; final = m }) (record { number = 32; final = m })
run_to t line barred (suc k) m =
    cond (eqb (action_to t line barred m) 0) (record { number = 31; final = m }) (after (run_to t line barred k) (moved_by t (action_to t line barred m) m))
