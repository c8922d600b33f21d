-- 32, 33 and 34 come only where all steps are made, all places of the stack area are in use, all places of the list area are: for any table.
use Prim.Native.Nat.{ℕ, ◌≤◌}
use mathlib.Core.Path.{◌≡◌, ap, ◌∙◌}
use mathlib.Core.Logic.{◌≢◌}
use mathlib.Core.List.{List}
use lib.ListN.{length}
use native.Mathlib.Omega.{arith}
use Rattle.machine.specs.Faithful.{Allowed}
use Rattle.machine.proofs.LrMachineLaws.{Config, depth, listed, own_steps, one_deeper, path_last}
use Rattle.machine.proofs.ReportLaws.{Reading, number_of, steps_of, depth_of, productions_of, Stops, accepted_here, wrong_here, no_steps, list_full, broken_here, stack_full, Faithful, shown_is, number_is, count_is, depth_is, productions_are}

-- what an end says of what was allowed
record Spent (a : Allowed) (c : Config) (n : ℕ) : Type 0 where
  steps : n ≡ 32 → a.steps ≡ 0
  stack : n ≡ 33 → a.stack ≤ depth c
  list : n ≡ 34 → listed c ≡ a.list

spent : {t : List ℕ} {a : Allowed} {c : Config} {n : ℕ} → Stops t a c n → Spent a c n
spent (accepted_here _ _) = record { steps = λ z. absurd (omega arith); stack = λ z. absurd (omega arith); list = λ z. absurd (omega arith) }
spent (wrong_here _) = record { steps = λ z. absurd (omega arith); stack = λ z. absurd (omega arith); list = λ z. absurd (omega arith) }
spent (no_steps _ e) = record { steps = λ z. e; stack = λ z. absurd (omega arith); list = λ z. absurd (omega arith) }
spent (list_full _ _ e) = record { steps = λ z. absurd (omega arith); stack = λ z. absurd (omega arith); list = λ z. e }
spent (broken_here _ _ _) = record { steps = λ z. absurd (omega arith); stack = λ z. absurd (omega arith); list = λ z. absurd (omega arith) }
spent {t} (stack_full s _ _ e) = record { steps = λ z. absurd (omega arith); stack = λ z. let d = one_deeper t s in omega arith; list = λ z. absurd (omega arith) }

module _ {t l st li se : List ℕ} {a : ℕ} {r : Reading} (f : Faithful t l st li se a r) where
  at : {n : ℕ} → number_of r ≡ n → n ≢ 46 → f.number ≡ n
  at e ne = shown_is (number_is f) e ne

  pub steps_spent : number_of r ≡ 32 → steps_of r ≡ a
  steps_spent e =
      let n = at e (λ z. omega arith) in
      let z = (spent f.why).steps n in
      let o : own_steps f.number ≡ 0 = ap own_steps n in
      count_is f ∙ omega (arith, f.budget, o, z)

  pub stack_spent : number_of r ≡ 33 → depth_of r ≡ length st
  stack_spent e = let z = (spent f.why).stack (at e (λ z. omega arith)) in let p = path_last t f.path in depth_is f ∙ omega (arith, f.within)

  pub list_spent : number_of r ≡ 34 → length (productions_of r) ≡ length li
  list_spent e = ap length (productions_are f) ∙ (spent f.why).list (at e (λ z. omega arith))
