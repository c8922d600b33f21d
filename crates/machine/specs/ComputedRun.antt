-- The reading as a function, which nobody has to believe: `reads_exactly` of proofs/ReadsLaws.antt proves it equal to the definition `Reads`.
-- The reader's machine: a stack of states in a lent area, a list of productions in another, and a step limit.
-- A step is the paper's move, the step limit its allowance, the position its place, the expected set its offer.
use Rattle.std.specs.Prelude.{ℕ, zero, suc, ◌+◌, ◌-◌, ◌*◌, ◌^◌, List, [], ◌∷◌, ◌++◌, Bool, cond, ◌||◌, length, get_or, set, take, replicate, ltb, eqb}
use Rattle.std.specs.Int.Count.{ones}
use Rattle.sets.specs.Bit.{bit, one_if}
use Rattle.sets.specs.Tests.{all_below}
use Rattle.tables.specs.Layout.{states, terminals, nonterminals, productions, left_of, length_of, entered_of, accept, cell_of, build}
use Rattle.machine.specs.Checks.{refusal_of, restricted_refusal}
use Rattle.machine.specs.Report.{Report, refused, wrong_at_is, unknown_at_is, Reading}

-- stack and list area, how many places of each are in use, the position in the input and the steps made
pub record Machine : Type 0 where
  pub stack : List ℕ
  pub list : List ℕ
  pub depth : ℕ
  pub listed : ℕ
  pub position : ℕ
  pub steps : ℕ

-- what comes of a step: an end with its number and the machine as it was, the machine after the step, or acceptance
pub data Next : Type 0 where
  ended : ℕ → Machine → Next
  moved : Machine → Next
  accepted : Machine → Next

-- "a place popped becomes 0": n places popped off a stack of d
unfoldable pub popped : List ℕ → ℕ → ℕ → List ℕ
popped s d zero = s
popped s d (suc n) = popped (set s (d - 1) 0) (d - 1) n

-- the state on top of a stack of d places
unfoldable pub top_of : List ℕ → ℕ → ℕ
top_of s d = get_or s (d - 1) 0

-- the action for the top state and the next terminal, which is 0 after the last
unfoldable pub action_of : List ℕ → List ℕ → Machine → ℕ
action_of t l m = cell_of t (top_of m.stack m.depth) (get_or l m.position 0)

-- 33, "a push with no place left", is tested last
unfoldable pub shifted : ℕ → Machine → Next
shifted q m =
    cond (ltb m.depth (length m.stack))
    (moved (record { stack = set m.stack m.depth q; list = m.list; depth = m.depth + 1; listed = m.listed; position = m.position + 1; steps = m.steps + 1 }))
    (ended 33 m)

-- the reduction by production r of n symbols, after which d places stay in use and state q is pushed: 35 before 33
unfoldable pub reduced_to : ℕ → ℕ → ℕ → ℕ → Machine → Next
reduced_to r n d q m =
    cond (eqb q 0) (ended 35 m)
    (cond (ltb d (length m.stack))
    (moved (record { stack = set (popped m.stack m.depth n) d q; list = set m.list m.listed r; depth = d + 1; listed = m.listed + 1; position = m.position; steps = m.steps + 1 }))
    (ended 33 m))

-- 34, "a reduction with the list full", then 35, "a reduction that would pop state 0, or whose next state is 0"
unfoldable pub reduced : List ℕ → ℕ → Machine → Next
reduced t r m =
    cond (ltb m.listed (length m.list))
    (cond (ltb (length_of t r) m.depth)
    (reduced_to r (length_of t r) (m.depth - length_of t r) (cell_of t (top_of m.stack (m.depth - length_of t r)) (left_of t r)) m)
    (ended 35 m))
    (ended 34 m)

-- the step that a cell other than 0 asks for: a shift below 1024, accept, else a reduction by production a - 1024
unfoldable pub moved_by : List ℕ → ℕ → Machine → Next
moved_by t a m =
    cond (ltb a 1024) (shifted a m)
    (cond (eqb a accept)
    (accepted (record { stack = m.stack; list = m.list; depth = m.depth; listed = m.listed; position = m.position; steps = m.steps + 1 }))
    (reduced t (a - 1024) m))

pub record Outcome : Type 0 where
  pub number : ℕ
  pub final : Machine

unfoldable pub after : (Machine → Outcome) → Next → Outcome
after go (ended n m) = record { number = n; final = m }
after go (moved m) = go m
after go (accepted m) = record { number = 0; final = m }

-- the run with so many steps left: 31 where the cell is 0, then 32 where no step is left, then the ends of the step itself
unfoldable pub run : List ℕ → List ℕ → ℕ → Machine → Outcome
run t l zero m = cond (eqb (action_of t l m) 0) (record { number = 31; final = m }) (record { number = 32; final = m })
run t l (suc k) m =
    cond (eqb (action_of t l m) 0) (record { number = 31; final = m }) (after (run t l k) (moved_by t (action_of t l m) m))

-- "the stack starts with state 0"
unfoldable pub start : List ℕ → List ℕ → Machine
start s rs = record { stack = set s 0 0; list = rs; depth = 1; listed = 0; position = 0; steps = 0 }

-- ---- fresh readings

-- a line with terminal m behind it; for 0 the line alone
abbrev pub with_next : List ℕ → ℕ → List ℕ
with_next line zero = line
with_next line (suc m) = line ++ suc m ∷ []

-- the fresh reading for terminal m: the same run, with a stack area of k places, and a list that is never full
unfoldable pub fresh : List ℕ → ℕ → ℕ → List ℕ → ℕ → Outcome
fresh t a k line m = run t (with_next line m) a (start (replicate k 0) (replicate a 0))

-- its number: 0 also where it has shifted m, whatever came then
unfoldable pub fresh_number : List ℕ → ℕ → ℕ → List ℕ → ℕ → ℕ
fresh_number t a k line m = cond (ltb (length line) (fresh t a k line m).final.position) 0 (fresh t a k line m).number

-- not cut short
unfoldable pub decided : ℕ → Bool
decided n = eqb n 0 || eqb n 31

-- the numbers below n that have p, as the bits of a word
unfoldable pub word_of : (ℕ → Bool) → ℕ → ℕ
word_of p zero = 0
word_of p (suc k) = one_if (p k) * 2 ^ k + word_of p k

-- the terminals whose fresh reading shifts them, or for 0 accepts
unfoldable pub expected_word : List ℕ → ℕ → ℕ → List ℕ → ℕ
expected_word t a k line = word_of (λ m. eqb (fresh_number t a k line m) 0) (terminals t)

-- ---- the report

-- the report of an end other than 31
abbrev pub ended_at : ℕ → Machine → Report
ended_at n m = Report.ended n m.steps m.depth m.listed

-- the report of 31 with an expected set
unfoldable pub expected_at : ℕ → Machine → Report
expected_at word m = wrong_at_is m.steps m.depth m.listed m.position word (ones word)

-- the report where some fresh reading is cut short
unfoldable pub unknown_at : Machine → Report
unknown_at m = unknown_at_is m.steps m.depth m.listed m.position

-- the report of 31, or of 46 in its place
unfoldable pub wrong_at : List ℕ → List ℕ → ℕ → ℕ → Machine → Report
wrong_at t l a k m =
    cond (all_below (terminals t) (λ x. decided (fresh_number t a k (take m.position l) x)))
    (expected_at (expected_word t a k (take m.position l)) m)
    (unknown_at m)

unfoldable pub report_of : List ℕ → List ℕ → ℕ → ℕ → Outcome → Report
report_of t l a k o = cond (eqb o.number 31) (wrong_at t l a k o.final) (ended_at o.number o.final)

-- the reading that a run leads to, with a second area of k places
unfoldable pub reading_of : List ℕ → List ℕ → ℕ → ℕ → Outcome → Reading
reading_of t l a k o = record { report = report_of t l a k o; stack = o.final.stack; list = o.final.list; second = replicate k 0 }

unfoldable pub reading : List ℕ → List ℕ → List ℕ → List ℕ → List ℕ → ℕ → Reading
reading t l st li se a =
    cond (eqb (refusal_of t l (length st) (length se)) 0)
    (reading_of t l a (length se) (run t l a (start st li)))
    (record { report = refused (refusal_of t l (length st) (length se)); stack = st; list = li; second = se })

-- ---- the restricted reading

-- a cell, or 0 in the column of a closed terminal
abbrev pub masked_cell : ℕ → List ℕ → ℕ → ℕ → ℕ
masked_cell closed t q x = cond (bit closed x) 0 (cell_of t q x)

-- a table with 0 in each column of a closed terminal
unfoldable pub masked : ℕ → List ℕ → List ℕ
masked closed t =
    build (states t) (terminals t) (nonterminals t) (productions t) (left_of t) (length_of t) (entered_of t) (masked_cell closed t)

-- the choir's reading is the publisher's of that table; `restricted_exactly` of proofs/RestrictedLaws.antt proves it equal to the definition `RestrictedReads`
unfoldable pub restricted_reading : List ℕ → ℕ → List ℕ → List ℕ → List ℕ → List ℕ → ℕ → Reading
restricted_reading t closed l st li se a =
    cond (eqb (restricted_refusal t closed l (length st) (length se)) 0)
    (reading_of (masked closed t) l a (length se) (run (masked closed t) l a (start st li)))
    (record { report = refused (restricted_refusal t closed l (length st) (length se)); stack = st; list = li; second = se })
