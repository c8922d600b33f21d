-- What the loop of `run` keeps between checkpoints, and the laws of its ways out.
use mathlib.Core.Path.{◌≡◌, refl, sym, ap, subst, ◌∙◌}
use mathlib.Core.Bool.{Bool}
use mathlib.Core.List.{List, ◌∷◌}
use Rattle.std.specs.Prelude.{Option, Some, None}
use Prim.Native.Nat.{ℕ, ◌+◌, ◌-◌, ◌<◌, ◌≤◌}
use native.Mathlib.Omega.{arith}
use lib.ListN.{length, take, drop, set}
use lib.Seq.{length-take-le}
use Rattle.tables.specs.Shape.{Shaped}
use Rattle.tables.specs.declared.Shape.{Shape}
use Rattle.machine.specs.ComputedRun.{Machine, Outcome, start}
use Rattle.machine.specs.RunTo.{run_to}
use Rattle.machine.proofs.RunLaws.{run_to_none}
use Rattle.machine.proofs.RunTo.{run_to_spent}
use Rattle.machine.proofs.Checked.{Passed}
use Rattle.machine.proofs.Checkpoints.{Come, come}
use Rattle.steps.specs.State.{machine_of, Held}
use Rattle.steps.specs.declared.State.{State}
use Rattle.exploration.specs.Reaches.{Reaches}
use Rattle.parser.specs.Answer.{counts_of}
use Rattle.parser.specs.Phases.{reached, Ends, Pauses, start_state, checkpoint_at, Resumes}
use Rattle.parser.specs.declared.Counts.{Counts}
use Rattle.parser.specs.declared.Reading.TheVariants.{StepLimit}
use Rattle.parser.specs.declared.Ending.{Ending}
use Rattle.parser.specs.declared.Ending.TheVariants.{Final}
use Rattle.parser.specs.declared.Checkpoint.{Checkpoint}
use Rattle.parser.proofs.Held.{held_start}
use Rattle.parser.proofs.Going.{ends_else}

-- the state with b steps left
abbrev pub with_left : ℕ → State → State
with_left b s = record { depth = s.depth; listed = s.listed; position = s.position; left = b; top = s.top }

-- the machine as the loop starts, with state 0 on the stack
abbrev pub begun : List ℕ → List ℕ → Machine
begun st li = record { stack = st; list = li; depth = 1; listed = 0; position = 0; steps = 0 }

-- the areas as the loop starts are st₀, li₀ and se₀, a is the limit; so many steps are left
pub record Running (t l : List ℕ) (barred : Bool) (cs : List ℕ) (a : ℕ) (z : Shape) (st₀ li₀ se₀ st li se : List ℕ) (s : State) (m : Option Checkpoint) (left : ℕ) : Type 0 where
  pub same : (j : ℕ) → run_to t l barred j (machine_of st li s) ≡ run_to t l barred (s.position + s.listed + j) (begun st₀ li₀)
  pub held : Held t cs st li z s
  pub spent : s.position + s.listed + left ≡ a
  pub stacks : length st ≡ length st₀
  pub lists : length li ≡ length li₀
  pub seconds : length se ≡ length se₀
  pub resumes : Resumes t l a se m

-- at first there is no checkpoint
pub running_start : {t l : List ℕ} {barred : Bool} {cs li se : List ℕ} {z : Shape} (st : List ℕ) (a : ℕ) → Passed t l (length st) → Shaped t z → cs ≡ drop z.cells t
    → Running t l barred cs a z (set st 0 0) li se (set st 0 0) li se start_state None a
running_start {t} {l} {barred} {li = li} {se = se} st a p s e = record {
  same = λ j. ap (λ (k : ℕ). run_to t l barred k (begun (set st 0 0) li)) (omega arith);
  held = held_start st 0 p s e;
  spent = omega arith;
  stacks = refl;
  lists = refl;
  seconds = refl;
  resumes = λ place k. tt;
}

module _ {t l : List ℕ} {barred : Bool} {cs : List ℕ} {a : ℕ} {z : Shape} {st₀ li₀ se₀ st li se : List ℕ} {s : State} {m : Option Checkpoint} {left : ℕ} (g : Running t l barred cs a z st₀ li₀ se₀ st li se s m left)
    (b : ℕ) (few : b ≤ left) where
  -- an end within the portion is that of the run
  pub run_ends : {e : Ending} {st' li' : List ℕ} → ((j : ℕ) → Ends (run_to t l barred (b + j) (machine_of st li s)) e st' li') → Ends (run_to t l barred a (begun st₀ li₀)) e st' li'
  run_ends {e} {st'} {li'} h =
      subst (λ (o : Outcome). Ends o e st' li') (g.same (b + (left - b)) ∙ ap (λ (k : ℕ). run_to t l barred k (begun st₀ li₀)) (omega (arith, few, g.spent))) (h (left - b))

  -- the run goes on from where the portion ends
  module _ (st' li' : List ℕ) (s' : State) (w : Pauses t l barred cs z (with_left b s) (machine_of st li s) st' li' s') where
    made_is : s'.position + s'.listed ≡ s.position + s.listed + b
    made_is = w.made

    on : (j : ℕ) → run_to t l barred j (machine_of st' li' s') ≡ run_to t l barred (s'.position + s'.listed + j) (begun st₀ li₀)
    on j = sym (w.goes j) ∙ g.same (b + j) ∙ ap (λ (k : ℕ). run_to t l barred k (begun st₀ li₀)) (omega (arith, made_is))

    -- with the steps made so far the run ends there
    so_far : run_to t l barred (s'.position + s'.listed) (begun st₀ li₀) ≡ record { number = 32; final = machine_of st' li' s' }
    so_far =
        ap (λ (k : ℕ). run_to t l barred k (begun st₀ li₀)) (omega arith) ∙ sym (on 0) ∙ run_to_none t l barred (machine_of st' li' s') 0 refl w.asks

    pub spent_ends : left ≡ b → {c : Counts} → counts_of c ≡ reached s' → Ends (run_to t l barred a (begun st₀ li₀)) (Final (StepLimit c)) st' li'
    spent_ends e ec =
        ends_else 32 (machine_of st' li' s') _ (λ z. omega arith)
        (sym so_far ∙ ap (λ (k : ℕ). run_to t l barred k (begun st₀ li₀)) (omega (arith, made_is, e, g.spent)))
        (ap (λ (x : List ℕ). 32 ∷ x) ec)

    -- a checkpoint there
    module _ (st₁ : List ℕ) (same_start : start st₁ li₀ ≡ begun st₀ li₀) (p : Passed t l (length st₁)) (e₁ : length st₀ ≡ length st₁) (longer : length st₁ ≤ length se₀) {se' : List ℕ} (es : length st' ≡ length st₀) (ez : length se' ≡ length se₀)
        (copied : take s'.depth se' ≡ take s'.depth st') where
      reaches : (place : ℕ) → place ≤ length l → s'.position < length (take place l)
          → Reaches t a (length se') (take place l) se' (drop s'.position (take place l)) (record { depth = s'.depth; left = left - b; top = s'.top })
      reaches place k i =
          let lt = length-take-le place l k in
          let c : Come t l a (length se') place (machine_of st' li' s') = come st₁ li₀ (s'.position + s'.listed) a (length se') place (machine_of st' li' s') p (run_to_spent t l barred (s'.position + s'.listed) (start st₁ li₀) (machine_of st' li' s') (rw same_start so_far)) refl (omega (arith, made_is, few, g.spent)) (omega (arith, longer, ez)) (omega (arith, lt)) k in
          let el : c.left ≡ left - b = omega (arith, c.budget, made_is, few, g.spent) in
          record {
            state = c.state;
            under = c.under;
            listed = c.listed;
            long = refl;
            stands =
                record {
                  deep = c.deep;
                  within = omega (arith, w.held.within, longer, e₁, es, ez);
                  stacked = copied ∙ c.stacked;
                  top_is = w.held.top_is ∙ c.top_is;
                  below = c.below;
                };
            comes = λ y. rw el at (c.comes y);
          }

      pub running_on : length li' ≡ length li₀
          → Running t l barred cs a z st₀ li₀ se₀ st' li' se' s' (Some (checkpoint_at s' (left - b))) (left - b)
      running_on el = record {
        same = on;
        held = w.held;
        spent = omega (arith, made_is, few, g.spent);
        stacks = es;
        lists = el;
        seconds = ez;
        resumes = reaches;
      }
