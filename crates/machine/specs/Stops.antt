-- Why the LR machine stops where it may use so many steps and places.
use Rattle.std.specs.Prelude.{ℕ, suc, ◌<◌, ◌≤◌, ◌≡◌, List}
use Rattle.machine.specs.LrMachine.{Config, depth, listed, Reduces, Step, Ends}

-- what a reading may still use: steps, and all places of the stack area and of the list area
pub record Allowed : Type 0 where
  pub steps : ℕ
  pub stack : ℕ
  pub list : ℕ

-- why the machine stops at a configuration, with the number of the end: "tested in this order before a move" are 31, 32, 34, 35, 33
pub data Stops (t : List ℕ) (a : Allowed) (c : Config) : ℕ → Type 0 where
  accepted_here : Ends t c 0 → 0 < a.steps → Stops t a c 0
  wrong_here : Ends t c 31 → Stops t a c 31
  no_steps : (Ends t c 31 → ⊥) → a.steps ≡ 0 → Stops t a c 32
  list_full : {r : ℕ} → Reduces t r c → 0 < a.steps → listed c ≡ a.list → Stops t a c 34
  broken_here : Ends t c 35 → 0 < a.steps → listed c < a.list → Stops t a c 35
  stack_full : {c' : Config} → Step t c c' → 0 < a.steps → listed c' ≤ a.list → depth c' ≡ suc a.stack → Stops t a c 33
