-- A reader whose limit and count have w bits gives the reading of the definition under w bits of its limit, and no other; and no count passes its limit.
use Prim.Native.Nat.{ℕ, zero, suc, ◌+◌, ◌%◌, ◌^◌, ◌<◌, ◌≤◌}
use mathlib.Core.Path.{◌≡◌, refl, sym, ap, subst, ◌∙◌}
use mathlib.Core.Logic.{◌≢◌, ◌↔◌}
use mathlib.Core.List.{List}
use lib.ListN.{length}
use borrow.Author.Tests.{ne_eqb}
use native.Mathlib.Omega.{arith}
use native.Mathlib.Nat.{mod-lt, mod-eq_of_lt}
use lib.Pow.{pow_pos}
use native.Mathlib.Decide.{ℕ_discrete}
use Rattle.machine.specs.Checks.{refusal_of}
use Rattle.machine.specs.Report.{Reading, steps_of}
use Rattle.machine.specs.Faithful.{Allowed, Stops, accepted_here, wrong_here, no_steps, list_full, broken_here, stack_full}
use Rattle.machine.specs.Reads.{Reads, refuses, reads}
use Rattle.machine.specs.ComputedRun.{Machine, Next, ended, moved, accepted, action_of, moved_by, Outcome, after, run, start, reading}
use Rattle.machine.specs.Widths as widths
use Rattle.machine.specs.Widths.{counting, RunsIn, wrong, spent, stops, accepts, goes_on, ReadsIn, OldLimits}
use Rattle.machine.proofs.LrMachineLaws.{Config, own_steps}
use Rattle.machine.proofs.ReportLaws.{count_is}
use Rattle.machine.proofs.RunLaws.{step_each, run_wrong, run_none}
use Rattle.machine.proofs.ReadsLaws.{unrefused, refused_is, reads_exactly}

-- ---- no count passes its limit

-- acceptance is a step itself, and is made only where one is left
own_left : {t : List ℕ} {a : Allowed} {c : Config} {n : ℕ} → Stops t a c n → own_steps n ≤ a.steps
own_left (accepted_here _ h) = h
own_left (wrong_here _) = omega arith
own_left (no_steps _ _) = omega arith
own_left (list_full _ _ _) = omega arith
own_left (broken_here _ _ _) = omega arith
own_left (stack_full _ _ _ _) = omega arith

pub count_most : {t l st li se : List ℕ} {a : ℕ} {r : Reading} → Reads t l st li se a r → steps_of r ≤ a
count_most (refuses _ _) = omega arith
count_most (reads _ f) = omega (arith, count_is f, own_left f.why, f.budget)

-- so a limit of w bits gives a count of w bits
pub count_in : {t l st li se : List ℕ} {a : ℕ} (w : ℕ) {r : Reading} → a < 2 ^ w → Reads t l st li se a r → steps_of r < 2 ^ w
count_in w h d = omega (arith, h, count_most d)

-- ---- a count of w bits is the count

start_none : (st li : List ℕ) (a : ℕ) → (start st li).steps + a ≡ a
unfolding start
start_none st li a = omega arith

-- what a step makes has one step more
abbrev Counts : ℕ → Next → Type 0
Counts n (ended i m) = Unit {0}
Counts n (moved m) = m.steps ≡ n + 1
Counts n (accepted m) = m.steps ≡ n + 1

step_counts : (t : List ℕ) (a : ℕ) (m : Machine) → Counts m.steps (moved_by t a m)
step_counts t a m = step_each (Counts m.steps) t a m (λ n. tt) (λ m' e _. e) (λ m' e _. e)

-- a is the limit as it is handed over
module _ (w : ℕ) (t l : List ℕ) (a : ℕ) where
  -- while the count is within w bits of the limit, w bits hold it
  same_count : (m : Machine) → m.steps ≤ a % 2 ^ w → counting w m ≡ m
  same_count m h = let e : m.steps % 2 ^ w ≡ m.steps = mod-eq_of_lt (omega (arith, mod-lt a (pow_pos w))) in rw e refl

  not_yet : {n : ℕ} (k : ℕ) → n + suc k ≡ a % 2 ^ w → n ≢ a % 2 ^ w
  not_yet k e z = omega arith

  -- the step that is made where one is left, and what comes of it
  module _ (k : ℕ) (m : Machine) (e : m.steps + suc k ≡ a % 2 ^ w) (n : action_of t l m ≢ 0) where
    more : run t l (suc k) m ≡ after (run t l k) (moved_by t (action_of t l m) m)
    unfolding run
    more = rw (ne_eqb (action_of t l m) 0 n) refl

    goes : ((m' : Machine) → m'.steps + k ≡ a % 2 ^ w → RunsIn w t l a m' (run t l k m')) → (x : Next) → moved_by t (action_of t l m) m ≡ x → Counts m.steps x
        → RunsIn w t l a m (after (run t l k) x)
    unfolding after
    goes ih (ended i m') h c = stops n (not_yet k e) h
    goes ih (moved m') h s =
        goes_on n (not_yet k e) h (subst (λ (z : Machine). RunsIn w t l a z (run t l k m')) (sym (same_count m' (omega arith))) (ih m' (omega arith)))
    goes ih (accepted m') h s =
        subst (λ (z : Machine). RunsIn w t l a m (record { number = 0; final = z })) (same_count m' (omega arith)) (accepts n (not_yet k e) h)

  runs : (k : ℕ) (m : Machine) → m.steps + k ≡ a % 2 ^ w → RunsIn w t l a m (run t l k m)
  runs zero m e = go (ℕ_discrete (action_of t l m) 0)
    where
      go : Dec (action_of t l m ≡ 0) → RunsIn w t l a m (run t l zero m)
      go (yes z) = rw (run_wrong t l m zero z) (wrong z)
      go (no n) = rw (run_none t l m zero refl n) (spent n (omega arith))
  runs (suc k) m e = go (λ m' h. runs k m' h) (ℕ_discrete (action_of t l m) 0)
    where
      go : ((m' : Machine) → m'.steps + k ≡ a % 2 ^ w → RunsIn w t l a m' (run t l k m')) → Dec (action_of t l m ≡ 0) → RunsIn w t l a m (run t l (suc k) m)
      go ih (yes z) = rw (run_wrong t l m (suc k) z) (wrong z)
      go ih (no n) = rw (more k m e n) (goes k m e n ih (moved_by t (action_of t l m) m) refl (step_counts t (action_of t l m) m))

  made : (m : Machine) (x : Next) → moved_by t (action_of t l m) m ≡ x → Counts m.steps x
  made m x h = subst (Counts m.steps) h (step_counts t (action_of t l m) m)

  only_run : {m : Machine} {o : Outcome} → RunsIn w t l a m o → (k : ℕ) → m.steps + k ≡ a % 2 ^ w → o ≡ run t l k m
  unfolding after
  only_run {m} (wrong z) k e = sym (run_wrong t l m k z)
  only_run {m} (spent n s) k e = sym (run_none t l m k (omega arith) n)
  only_run (stops n ne h) zero e = absurd (ne (omega arith))
  only_run {m} (stops n ne h) (suc k) e = sym (more k m e n ∙ ap (after (run t l k)) h)
  only_run (accepts n ne h) zero e = absurd (ne (omega arith))
  only_run {m} (accepts {m' = m'} n ne h) (suc k) e =
      let s : m'.steps ≡ m.steps + 1 = made m (accepted m') h in
      ap (λ (z : Machine). record { number = 0; final = z }) (same_count m' (omega arith)) ∙ sym (more k m e n ∙ ap (after (run t l k)) h)
  only_run (goes_on n ne h r) zero e = absurd (ne (omega arith))
  only_run {m} (goes_on {m' = m'} n ne h r) (suc k) e =
      let s : m'.steps ≡ m.steps + 1 = made m (moved m') h in
      let c = same_count m' (omega arith) in
      let z = ap (λ (z : Machine). z.steps) c in
      only_run r k (omega (arith, z)) ∙ ap (run t l k) c ∙ sym (more k m e n ∙ ap (after (run t l k)) h)

-- ---- so a reading in w bits is the reading under w bits of the limit

module _ (w : ℕ) (t l st li se : List ℕ) (a : ℕ) where
  some_in : ReadsIn w t l st li se a (reading t l st li se (a % 2 ^ w))
  some_in = go (ℕ_discrete (refusal_of t l (length st) (length se)) 0)
    where
      go : Dec (refusal_of t l (length st) (length se) ≡ 0) → ReadsIn w t l st li se a (reading t l st li se (a % 2 ^ w))
      go (yes e) = rw (unrefused t l st li se (a % 2 ^ w) e (run t l (a % 2 ^ w) (start st li)) refl) (widths.reads e (runs w t l a (a % 2 ^ w) (start st li) (start_none st li (a % 2 ^ w))))
      go (no n) = rw (refused_is t l st li se (a % 2 ^ w) (refusal_of t l (length st) (length se)) refl n) (widths.refuses refl n)

  pub only_in : (r : Reading) → ReadsIn w t l st li se a r → r ≡ reading t l st li se (a % 2 ^ w)
  only_in r (widths.refuses {n} e ne) = sym (refused_is t l st li se (a % 2 ^ w) n e ne)
  only_in r (widths.reads {o} e d) = sym (unrefused t l st li se (a % 2 ^ w) e o (sym (only_run w t l a d (a % 2 ^ w) (start_none st li (a % 2 ^ w)))))

  -- "One proof serves either width": this one is for every w
  pub modulo : (r : Reading) → ReadsIn w t l st li se a r ↔ Reads t l st li se (a % 2 ^ w) r
  modulo r = (λ d. (reads_exactly t l st li se (a % 2 ^ w) r).1 (only_in r d), λ d. rw ((reads_exactly t l st li se (a % 2 ^ w) r).0 d) some_in)

  pub in_width : a < 2 ^ w → (r : Reading) → ReadsIn w t l st li se a r ↔ Reads t l st li se a r
  in_width f r = rw (mod-eq_of_lt f) at (modulo r)

pub old_limits : OldLimits
old_limits t l st li se a f r =
    let g : a < 2 ^ 64 = omega (arith, f) in
    (λ d. (in_width 64 t l st li se a g r).1 ((in_width 32 t l st li se a f r).0 d), λ d. (in_width 32 t l st li se a f r).1 ((in_width 64 t l st li se a g r).0 d))
