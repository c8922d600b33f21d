-- The state that the code carries between steps, as the machine of the tables' definitions, and what holds of it.
use Rattle.std.specs.Prelude.{ℕ, ◌+◌, ◌-◌, ◌^◌, ◌≤◌, ◌<◌, ◌≡◌, List, length, get_or, drop, Option, Some, None, Result, Ok, Err}
use Rattle.tables.specs.Layout.{productions}
use Rattle.machine.specs.ComputedRun as machine
use Rattle.tables.specs.Shape.{Shaped}
use Rattle.tables.specs.declared.Shape.{Shape}
use Rattle.machine.proofs.Checked.{Checked}
use Rattle.steps.specs.declared.State.{State}
use Rattle.steps.specs.declared.Stop.{Stop}
use Rattle.steps.specs.declared.Stop.TheVariants.{StackFull, ListFull, Broken}

-- each step made has passed a terminal or listed a production
abbrev pub machine_of : List ℕ → List ℕ → State → machine.Machine
machine_of st li s = record { stack = st; list = li; depth = s.depth; listed = s.listed; position = s.position; steps = s.position + s.listed }

-- acceptance is one step more, and changes nothing else
abbrev pub accepted_of : List ℕ → List ℕ → State → machine.Machine
accepted_of st li s = record { stack = st; list = li; depth = s.depth; listed = s.listed; position = s.position; steps = s.position + s.listed + 1 }

abbrev pub stop_number : Stop → ℕ
stop_number StackFull = 33
stop_number ListFull = 34
stop_number Broken = 35

-- what a step answers, with the areas at its exit, as the machine's next; s is the state before
abbrev pub next_of : List ℕ → List ℕ → State → Result (Option State) Stop → machine.Next
next_of st li s (Err e) = machine.ended (stop_number e) (machine_of st li s)
next_of st li s (Ok (Some n)) = machine.moved (machine_of st li n)
next_of st li s (Ok None) = machine.accepted (accepted_of st li s)

-- what a shift or a reduction answers, as a step's answer: it accepts nothing
abbrev pub unaccepted : Result State Stop → Result (Option State) Stop
unaccepted (Ok n) = Ok (Some n)
unaccepted (Err e) = Err e

-- what holds between steps: t is a checked table of the sizes z and the rows cs, st and li are the areas
pub record Held (t cs st li : List ℕ) (z : Shape) (s : State) : Type 0 where
  pub checked : Checked t
  pub shaped : Shaped t z
  pub rows : cs ≡ drop z.cells t
  pub deep : 1 ≤ s.depth
  pub within : s.depth ≤ length st
  pub room : s.listed ≤ length li
  pub passed : s.position ≤ 65535
  pub states_in : (i : ℕ) → i < s.depth → get_or st i 0 < z.states
  pub top_is : s.top ≡ machine.top_of st s.depth

-- the same after a step from s, where the machine goes on: one step fewer is left, and one more is made
abbrev pub HeldNext : List ℕ → List ℕ → List ℕ → List ℕ → Shape → State → Result (Option State) Stop → Type 0
HeldNext t cs st li z s (Err e) = Unit {0}
HeldNext t cs st li z s (Ok (Some n)) = Held t cs st li z n × (n.left + 1 ≡ s.left) × (n.position + n.listed ≡ s.position + s.listed + 1)
HeldNext t cs st li z s (Ok None) = Unit {0}

-- the step from s that answers x, with the areas at its exit, is the machine's m
pub record Stepped (t cs : List ℕ) (z : Shape) (s : State) (st li : List ℕ) (x : Result (Option State) Stop) (m : machine.Next) : Type 0 where
  pub next : next_of st li s x ≡ m
  pub held : HeldNext t cs st li z s x

-- a step is left, production r can be listed, and its n symbols popped, which leaves the state under on top
pub record Reducible (t cs st li : List ℕ) (z : Shape) (s : State) (r n under : ℕ) : Type 0 where
  pub held : Held t cs st li z s
  pub production : r < productions t
  pub less : n < s.depth
  pub under_is : under ≡ machine.top_of st (s.depth - n)
  pub free : s.listed < length li
  pub more : 0 < s.left

-- the cell a asks for a step, a shift only before position 65,535, the end of the longest input, and a step is left
pub record Steppable (t cs st li : List ℕ) (z : Shape) (s : State) (a : ℕ) : Type 0 where
  pub held : Held t cs st li z s
  pub fits : a < 2 ^ 16
  pub shift_in : a < 1024 → (a < z.states) × (s.position < 65535)
  pub reduction_in : 1024 ≤ a → (a ≡ 4096 → ⊥) → a - 1024 < productions t
  pub more : 0 < s.left
