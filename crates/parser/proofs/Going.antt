-- What the loop of `advance` keeps, and the laws of its ways out, in the values that the code has.
use mathlib.Core.Path.{◌≡◌, refl, sym, ap, subst, ◌∙◌}
use mathlib.Core.Logic.{◌≢◌}
use mathlib.Core.Bool.{Bool, cond, not, ◌&&◌}
use mathlib.Core.List.{List, ◌∷◌}
use Prim.Native.Nat.{ℕ, ◌+◌, ◌-◌, ◌*◌, ◌^◌, ◌<◌}
use native.Mathlib.Omega.{arith}
use lib.ListN.{length, get_or}
use lib.Dec.{ltb}
use Rattle.machine.specs.Report.{numbers_of}
use Rattle.machine.specs.ComputedRun.{Machine, Next, moved_by, Outcome, after, ended_at}
use Rattle.machine.specs.RunTo.{action_to, run_to}
use Rattle.machine.proofs.RunLaws.{run_to_wrong, run_to_more}
use Rattle.tables.specs.declared.Shape.{Shape}
use Rattle.machine.proofs.Checked.{Passed}
use Rattle.steps.specs.State.{machine_of, accepted_of, stop_number, Held, Stepped}
use Rattle.steps.specs.declared.Stop.{Stop}
use Rattle.steps.specs.declared.Stop.TheVariants.{StackFull, ListFull, Broken}
use Rattle.steps.specs.declared.State.{State}
use Rattle.std.specs.Prelude.{Some, None, Ok, Err}
use Rattle.parser.specs.Answer.{counts_of, reading_numbers}
use Rattle.parser.specs.Phases.{reached, accepted_at, Countable, At, final, wrong, Ends, Pauses}
use Rattle.parser.specs.declared.Counts.{Counts}
use Rattle.parser.specs.declared.Reading.{Reading}
use Rattle.parser.specs.declared.Ending.TheVariants.{Final, Wrong}
use Rattle.parser.proofs.Held.{action_is}

-- while the loop goes on from the state s₀: as many steps as were left there, and any more, lead to the same
pub record Going (t l : List ℕ) (barred : Bool) (cs : List ℕ) (s₀ : State) (z : Shape) (st₀ li₀ st li : List ℕ) (s : State) : Type 0 where
  pub same : (j : ℕ) → run_to t l barred (s.left + j) (machine_of st li s) ≡ run_to t l barred (s₀.left + j) (machine_of st₀ li₀ s₀)
  pub held : Held t cs st li z s
  -- what is made and what is left stay the same together
  pub spent : s.position + s.listed + s.left ≡ s₀.position + s₀.listed + s₀.left
  pub stacks : length st ≡ length st₀
  pub lists : length li ≡ length li₀

-- under a limit of w bits the steps made have w bits, and where one is left the next does, too
module _ {t l : List ℕ} {barred : Bool} {cs st₀ li₀ st li : List ℕ} {s₀ : State} {z : Shape} {s : State} (g : Going t l barred cs s₀ z st₀ li₀ st li s) (w : ℕ) (f : s₀.position + s₀.listed + s₀.left < 2 ^ w) where
  pub countable : Countable w s
  countable = omega (arith, g.spent)

  pub countable_next : (s.left ≡ 0 → ⊥) → s.position + s.listed + 1 < 2 ^ w
  countable_next more = omega (arith, g.spent, more)

ends_31 : {position : ℕ} {c : Counts} (m : Machine) (o : Outcome) → record { number = 31; final = m } ≡ o → At m position c → Ends o (Wrong position c) m.stack m.list
ends_31 {position} {c} m o e h = subst (λ (o : Outcome). Ends o (Wrong position c) m.stack m.list) e (record { says = wrong refl h; stack = refl; list = refl })

pub ends_else : {r : Reading} (n : ℕ) (m : Machine) (o : Outcome) → n ≢ 31 → record { number = n; final = m } ≡ o → reading_numbers r ≡ numbers_of (ended_at n m) → Ends o (Final r) m.stack m.list
ends_else {r} n m o d e h = subst (λ (o : Outcome). Ends o (Final r) m.stack m.list) e (record { says = final d h; stack = refl; list = refl })

stop_number_is : (e : Stop) → stop_number e ≢ 31
stop_number_is StackFull z = omega arith
stop_number_is ListFull z = omega arith
stop_number_is Broken z = omega arith

module _ {t l : List ℕ} {barred : Bool} {cs st₀ li₀ : List ℕ} {s₀ : State} {z : Shape} {st li : List ℕ} {s : State} (g : Going t l barred cs s₀ z st₀ li₀ st li s) {n : ℕ} (p : Passed t l n)
    {x : ℕ} (ex : x ≡ cond (barred && not (ltb s.position (length l))) 0 (get_or cs (get_or l s.position 0 + s.top * z.width) 0)) where
  act : x ≡ action_to t l barred (machine_of st li s)
  act = action_is g.held p barred ex

  pub stop_31 : {c : Counts} → x ≡ 0 → counts_of c ≡ reached s → (j : ℕ) → Ends (run_to t l barred (s₀.left + j) (machine_of st₀ li₀ s₀)) (Wrong s.position c) st li
  stop_31 e h j = ends_31 (machine_of st li s) _ (sym (run_to_wrong t l barred (machine_of st li s) (s.left + j) (sym act ∙ e)) ∙ g.same j) (record { counted = h; place = refl })

  module _ (nz : x ≡ 0 → ⊥) where
    -- no step is left
    pub pauses : s.left ≡ 0 → Pauses t l barred cs z s₀ (machine_of st₀ li₀ s₀) st li s
    pauses e = record {
      goes = λ j. sym (g.same j) ∙ ap (λ (k : ℕ). run_to t l barred k (machine_of st li s)) (omega (arith, e));
      held = g.held;
      asks = λ z. nz (act ∙ z);
      made = omega (arith, g.spent, e);
    }

    module _ (more : s.left ≡ 0 → ⊥) where
      some : (j : ℕ) → 0 < s.left + j
      some j = omega (arith, more)

      stepped : (j : ℕ) {m : Next} → m ≡ moved_by t x (machine_of st li s) → after (run_to t l barred (s.left + j - 1)) m ≡ run_to t l barred (s₀.left + j) (machine_of st₀ li₀ s₀)
      stepped j e =
          ap (after (run_to t l barred (s.left + j - 1))) (e ∙ ap (λ (y : ℕ). moved_by t y (machine_of st li s)) act)
          ∙ sym (run_to_more t l barred (machine_of st li s) (s.left + j) (some j) (λ e. nz (act ∙ e))) ∙ g.same j

      module _ {st' li' : List ℕ} where
        pub stop_step : {e : Stop} {r : Reading} → Stepped t cs z s st' li' (Err e) (moved_by t x (machine_of st li s))
            → reading_numbers r ≡ stop_number e ∷ reached s → (j : ℕ) → Ends (run_to t l barred (s₀.left + j) (machine_of st₀ li₀ s₀)) (Final r) st' li'
        unfolding after
        stop_step {e} y h j = ends_else (stop_number e) (machine_of st' li' s) _ (stop_number_is e) (stepped j y.next) h

        pub accept_step : {r : Reading} → Stepped t cs z s st' li' (Ok None) (moved_by t x (machine_of st li s))
            → reading_numbers r ≡ 0 ∷ accepted_at s → (j : ℕ) → Ends (run_to t l barred (s₀.left + j) (machine_of st₀ li₀ s₀)) (Final r) st' li'
        unfolding after
        accept_step y h j = ends_else 0 (accepted_of st' li' s) _ (λ z. omega arith) (stepped j y.next) h

        module _ {s' : State} (y : Stepped t cs z s st' li' (Ok (Some s')) (moved_by t x (machine_of st li s))) where
          pub goes_on : length st' ≡ length st → length li' ≡ length li → Going t l barred cs s₀ z st₀ li₀ st' li' s'
          unfolding after
          goes_on es el = record {
            same = λ j. ap (λ (n : ℕ). run_to t l barred n (machine_of st' li' s')) (omega (arith, y.held.1)) ∙ stepped j y.next;
            held = y.held.0;
            spent = omega (arith, y.held.1, y.held.2, g.spent);
            stacks = es ∙ g.stacks;
            lists = el ∙ g.lists;
          }
