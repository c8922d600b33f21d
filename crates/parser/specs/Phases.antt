-- What the parts of a reading hand on to each other. Only private functions cite this.
use Rattle.std.specs.Prelude.{ℕ, ◌+◌, ◌^◌, ◌<◌, ◌≤◌, ◌≡◌, ◌≢◌, Bool, true, List, [], ◌∷◌, ◌++◌, length, take, drop, replicate, Option, Some, None, Result, Ok, Err}
use Rattle.std.specs.Int.Count.{ones}
use Rattle.std.specs.declared.ops.ControlFlow.{ControlFlow}
use Rattle.std.specs.declared.ops.ControlFlow.TheVariants.{Continue, Break}
use Rattle.machine.specs.Report.{numbers_of}
use Rattle.machine.specs.Checks.{closed_ok}
use Rattle.machine.specs.Restricted.{OpenOffer, OpenCutShort}
use Rattle.machine.specs.ComputedRun.{Machine, Outcome, start, expected_at, unknown_at, ended_at}
use Rattle.machine.specs.RunTo.{action_to, run_to}
use Rattle.machine.proofs.Checked.{Passed}
use Rattle.tables.specs.declared.Shape.{Shape}
use Rattle.steps.specs.State.{machine_of, Held}
use Rattle.steps.specs.declared.State.{State}
use Rattle.exploration.specs.Reaches.{Reaches}
use Rattle.exploration.specs.declared.Cut.{Cut}
use Rattle.parser.specs.declared.Counts.{Counts}
use Rattle.parser.specs.declared.Reading.{Reading}
use Rattle.parser.specs.declared.Ending.{Ending}
use Rattle.parser.specs.declared.Ending.TheVariants.{Final, Wrong}
use Rattle.parser.specs.declared.Checkpoint.{Checkpoint}
use Rattle.parser.specs.Answer.{counts_of, reading_numbers}

-- what an end at a state carries
abbrev pub reached : State → List ℕ
reached s = (s.position + s.listed) ∷ s.depth ∷ s.listed ∷ []

-- what acceptance there carries: it is a step, too
abbrev pub accepted_at : State → List ℕ
accepted_at s = (s.position + s.listed + 1) ∷ s.depth ∷ s.listed ∷ []

-- how many bits the step limit and the count have in the code; no law knows it
abbrev pub count_bits : ℕ
count_bits = 64

-- the steps made are a number of w bits
abbrev pub Countable : ℕ → State → Type 0
Countable w s = s.position + s.listed < 2 ^ w

-- the counts and the position are those of a machine
pub record At (m : Machine) (position : ℕ) (c : Counts) : Type 0 where
  pub counted : counts_of c ≡ m.steps ∷ m.depth ∷ m.listed ∷ []
  pub place : position ≡ m.position

-- an ending is that of an outcome of the machine
pub data Says (o : Outcome) : Ending → Type 0 where
  final : {r : Reading} → o.number ≢ 31 → reading_numbers r ≡ numbers_of (ended_at o.number o.final) → Says o (Final r)
  wrong : {position : ℕ} {c : Counts} → o.number ≡ 31 → At o.final position c → Says o (Wrong position c)

-- so are stack and list at exit
pub record Ends (o : Outcome) (e : Ending) (st li : List ℕ) : Type 0 where
  pub says : Says o e
  pub stack : st ≡ o.final.stack
  pub list : li ≡ o.final.list

-- every run with the steps left at a state s and more, from the machine m₀, comes to the state s', with all of them made and an action to follow
pub record Pauses (t l : List ℕ) (barred : Bool) (cs : List ℕ) (z : Shape) (s : State) (m₀ : Machine) (st li : List ℕ) (s' : State) : Type 0 where
  pub goes : (j : ℕ) → run_to t l barred (s.left + j) m₀ ≡ run_to t l barred j (machine_of st li s')
  pub held : Held t cs st li z s'
  pub asks : action_to t l barred (machine_of st li s') ≢ 0
  pub made : s'.position + s'.listed ≡ s.position + s.listed + s.left

-- what comes of the steps left at s, from m₀: the end of every run with that many steps and more, or the state to go on from
abbrev pub Advances : List ℕ → List ℕ → Bool → List ℕ → Shape → State → Machine → List ℕ → List ℕ → ControlFlow Ending State → Type 0
Advances t l barred cs z s m₀ st li (Break e) = (j : ℕ) → Ends (run_to t l barred (s.left + j) m₀) e st li
Advances t l barred cs z s m₀ st li (Continue s') = Pauses t l barred cs z s m₀ st li s'

-- state 0 alone, before the first step
abbrev pub start_state : State
start_state = record { depth = 1; listed = 0; position = 0; left = 0; top = 0 }

-- the checkpoint at a state with so many steps left
abbrev pub checkpoint_at : State → ℕ → Checkpoint
checkpoint_at s left = record { spot = record { depth = s.depth; left = left; top = s.top }; position = s.position }

-- a fresh reading behind a line that is longer than what was passed at a checkpoint can go on from there; the second area is se
abbrev pub ResumesIn : List ℕ → List ℕ → ℕ → List ℕ → Option Checkpoint → Type 0
ResumesIn t line limit se None = Unit {0}
ResumesIn t line limit se (Some m) = m.position < length line → Reaches t limit (length se) line se (drop m.position line) m.spot

-- so it is for each beginning of the line that is read
abbrev pub Resumes : List ℕ → List ℕ → ℕ → List ℕ → Option Checkpoint → Type 0
Resumes t l limit se m = (place : ℕ) → place ≤ length l → ResumesIn t (take place l) limit se m

-- what is told of an exploration at a position
abbrev pub tells : Result ℕ Cut → ℕ → Counts → List ℕ
tells (Ok word) position c = 31 ∷ counts_of c ++ position ∷ word ∷ ones word ∷ []
tells (Err e) position c = 46 ∷ counts_of c ++ position ∷ 0 ∷ 0 ∷ []

-- where the line before a position is to be explored, that is a part of the line that is read, whose length is n
abbrev pub Explorable : ℕ → Ending → Type 0
Explorable n (Final r) = Unit {0}
Explorable n (Wrong position c) = position ≤ n

-- what is answered to a wrong terminal where the machine m has come; k is the length of the second area
pub data AnswersAt (t : List ℕ) (closed : ℕ) (line : List ℕ) (a k : ℕ) (m : Machine) (r : Reading) : Type 0 where
  known : (word : ℕ) → OpenOffer t closed a k (take m.position line) word → reading_numbers r ≡ numbers_of (expected_at word m) → AnswersAt t closed line a k m r
  unknown : OpenCutShort t closed a k (take m.position line) → reading_numbers r ≡ numbers_of (unknown_at m) → AnswersAt t closed line a k m r

-- what is answered to an outcome
pub data Answers (t : List ℕ) (closed : ℕ) (line : List ℕ) (a k : ℕ) (o : Outcome) (r : Reading) : Type 0 where
  ends : o.number ≢ 31 → reading_numbers r ≡ numbers_of (ended_at o.number o.final) → Answers t closed line a k o r
  stops : o.number ≡ 31 → AnswersAt t closed line a k o.final r → Answers t closed line a k o r

-- nothing is refused: n and k are the lengths of both stack areas
pub record Ready (t line : List ℕ) (closed n k : ℕ) : Type 0 where
  pub passed : Passed t line n
  pub short : length line ≤ 65535
  pub second : n ≤ k
  pub word : closed_ok t closed ≡ true

-- the line is read up to its end or to the bar behind it
pub record ReadsTo (t line : List ℕ) (barred : Bool) (closed : ℕ) (st₀ li₀ se₀ : List ℕ) (a : ℕ) (r : Reading) (st li se : List ℕ) : Type 0 where
  pub answer : Answers t closed line a (length se₀) (run_to t line barred a (start st₀ li₀)) r
  pub stack : st ≡ (run_to t line barred a (start st₀ li₀)).final.stack
  pub list : li ≡ (run_to t line barred a (start st₀ li₀)).final.list
  pub second : se ≡ replicate (length se₀) 0
