-- Laws of the computed run: each case under the tests that lead to it.
use mathlib.Core.Path.{◌≡◌, refl, sym, ap, ◌∙◌}
use mathlib.Core.Bool.{Bool, true, false, cond, false≢true}
use mathlib.Core.Logic.{⊎_elim}
use mathlib.Core.List.{List}
use Prim.Native.Nat.{ℕ, zero, suc, ◌+◌, ◌-◌, ◌<◌, ◌≤◌}
use native.Mathlib.Nat.{not-suc-le-zero}
use native.Mathlib.Numerals.{sub-one}
use native.Mathlib.Omega.{arith}
use lib.ListN.{length, get_or, set, length-set}
use lib.Seq.{get_or-set_same, get_or-set_other}
use lib.Dec.{ltb, eqb}
use borrow.Author.Tests.{lt-ltb, le-ltb, eq-eqb, ne_eqb, ltb-true, ltb-false}
use Rattle.sets.proofs.HasLaws.{lt_or_ge}
use Rattle.tables.specs.Layout.{accept, cell_of, length_of, left_of}
use Rattle.machine.specs.ComputedRun.{Machine, Next, ended, moved, accepted, popped, top_of, action_of, shifted, reduced_to, reduced, moved_by, Outcome, after, run}
use Rattle.machine.specs.RunTo.{action_to, run_to}

-- what holds in both cases of a test
pub either : {A : Type 0} (P : A → Type 0) (b : Bool) {x y : A} → (b ≡ true → P x) → (b ≡ false → P y) → P (cond b x y)
either P true f g = f refl
either P false f g = g refl

pub popped_step : (s : List ℕ) (d k : ℕ) → 0 < k → popped (set s (d - 1) 0) (d - 1) (k - 1) ≡ popped s d k
unfolding popped
popped_step s d zero h = absurd (not-suc-le-zero h)
popped_step s d (suc k) h = ap (λ (n : ℕ). popped (set s (d - 1) 0) (d - 1) n) (sub-one (suc k))

pub popped_none : (s : List ℕ) (d k : ℕ) → k ≡ 0 → popped s d k ≡ s
unfolding popped
popped_none s d k e = rw e refl

pub popped_length : (s : List ℕ) (d n : ℕ) → length (popped s d n) ≡ length s
unfolding popped
popped_length s d zero = refl
popped_length s d (suc n) = popped_length (set s (d - 1) 0) (d - 1) n ∙ length-set s (d - 1) 0

-- the places below stay
pub popped_at : (s : List ℕ) (d n i : ℕ) → n ≤ d → i < d - n → get_or (popped s d n) i 0 ≡ get_or s i 0
unfolding popped
popped_at s d zero i h k = refl
popped_at s d (suc n) i h k =
    popped_at (set s (d - 1) 0) (d - 1) n i (omega arith) (omega arith) ∙ get_or-set_other s (d - 1) i 0 0 (λ e. omega arith)

-- one state more on a stack of d
pub states_more : (st : List ℕ) (d q n : ℕ) → d < length st → q < n → ((i : ℕ) → i < d → get_or st i 0 < n) → (i : ℕ) → i < d + 1 → get_or (set st d q) i 0 < n
states_more st d q n h b f i k =
    ⊎_elim
    (λ (l : i < d). rw (get_or-set_other st d i q 0 (λ e. omega arith)) (f i l))
    (λ (g : d ≤ i).
    let e : i ≡ d = omega arith in
    rw (e, get_or-set_same st d q 0 h) b)
    (lt_or_ge i d)

module _ (r n d q : ℕ) (m : Machine) where
  pub reduced_to_none : q ≡ 0 → reduced_to r n d q m ≡ ended 35 m
  unfolding reduced_to
  reduced_to_none e = rw (eq-eqb q 0 e)

  pub reduced_to_full : (q ≡ 0 → ⊥) → length m.stack ≤ d → reduced_to r n d q m ≡ ended 33 m
  unfolding reduced_to
  reduced_to_full e h = rw (ne_eqb q 0 e, le-ltb d (length m.stack) h)

  pub reduced_to_goes : (p : List ℕ) → p ≡ popped m.stack m.depth n → (q ≡ 0 → ⊥) → d < length m.stack
      → moved (record { stack = set p d q; list = set m.list m.listed r; depth = d + 1; listed = m.listed + 1; position = m.position; steps = m.steps + 1 })
      ≡ reduced_to r n d q m
  unfolding reduced_to
  reduced_to_goes p w e h = rw (ne_eqb q 0 e, lt-ltb d (length m.stack) h, w)

module _ (t : List ℕ) (r : ℕ) (m : Machine) where
  pub reduced_full : length m.list ≤ m.listed → reduced t r m ≡ ended 34 m
  unfolding reduced
  reduced_full h = rw (le-ltb m.listed (length m.list) h)

  pub reduced_broken : m.listed < length m.list → m.depth ≤ length_of t r → reduced t r m ≡ ended 35 m
  unfolding reduced
  reduced_broken h g = rw (lt-ltb m.listed (length m.list) h, le-ltb (length_of t r) m.depth g)

  pub reduced_to_is : (n l q : ℕ) → n ≡ length_of t r → l ≡ left_of t r → q ≡ cell_of t (top_of m.stack (m.depth - n)) l
      → m.listed < length m.list → n < m.depth → reduced_to r n (m.depth - n) q m ≡ reduced t r m
  unfolding reduced
  reduced_to_is n l q en el eq h g = rw (lt-ltb m.listed (length m.list) h, ← en, lt-ltb n m.depth g, eq, el)

module _ (t : List ℕ) (a : ℕ) (m : Machine) where
  pub moved_shift : a < 1024 → moved_by t a m ≡ shifted a m
  unfolding moved_by
  moved_shift h = rw (lt-ltb a 1024 h)

  pub moved_accept : 1024 ≤ a → a ≡ 4096
      → moved_by t a m ≡ accepted (record { stack = m.stack; list = m.list; depth = m.depth; listed = m.listed; position = m.position; steps = m.steps + 1 })
  unfolding moved_by
  moved_accept h e = rw (le-ltb a 1024 h, eq-eqb a 4096 e)

  pub moved_reduce : 1024 ≤ a → (a ≡ 4096 → ⊥) → moved_by t a m ≡ reduced t (a - 1024) m
  unfolding moved_by
  moved_reduce h e = rw (le-ltb a 1024 h, ne_eqb a 4096 e)

module _ (q : ℕ) (m : Machine) where
  pub shifted_goes : m.depth < length m.stack
      → shifted q m ≡ moved (record { stack = set m.stack m.depth q; list = m.list; depth = m.depth + 1; listed = m.listed; position = m.position + 1; steps = m.steps + 1 })
  unfolding shifted
  shifted_goes h = rw (lt-ltb m.depth (length m.stack) h)

  pub shifted_full : length m.stack ≤ m.depth → shifted q m ≡ ended 33 m
  unfolding shifted
  shifted_full h = rw (le-ltb m.depth (length m.stack) h)

-- ---- the run up to a closed terminal, and the run

-- the action over a line: 0 where a closed terminal stands at its end, else the run's
pub data Acts (t line : List ℕ) (barred : Bool) (m : Machine) : Type 0 where
  at_bar : barred ≡ true → length line ≤ m.position → action_to t line barred m ≡ 0 → Acts t line barred m
  no_bar : (barred ≡ true → m.position < length line) → action_to t line barred m ≡ action_of t line m → Acts t line barred m

module _ (t line : List ℕ) (barred : Bool) (m : Machine) where
  pub acts : Acts t line barred m
  unfolding action_to
  acts = go barred (ltb m.position (length line)) refl refl
    where
      go : (b c : Bool) → barred ≡ b → ltb m.position (length line) ≡ c → Acts t line barred m
      go true true eb ec = no_bar (λ _. ltb-true m.position (length line) ec) (rw (eb, ec) refl)
      go true false eb ec = at_bar eb (ltb-false m.position (length line) ec) (rw (eb, ec) refl)
      go false c eb ec = no_bar (λ e. absurd (false≢true (sym eb ∙ e))) (rw eb refl)

  -- the run, by the test of its first action
  pub run_to_wrong : (k : ℕ) → action_to t line barred m ≡ 0 → run_to t line barred k m ≡ record { number = 31; final = m }
  unfolding run_to
  run_to_wrong zero e = rw (eq-eqb (action_to t line barred m) 0 e)
  run_to_wrong (suc k) e = rw (eq-eqb (action_to t line barred m) 0 e)

  pub run_to_none : (k : ℕ) → k ≡ 0 → (action_to t line barred m ≡ 0 → ⊥) → run_to t line barred k m ≡ record { number = 32; final = m }
  unfolding run_to
  run_to_none k z e = rw (z, ne_eqb (action_to t line barred m) 0 e)

  pub run_to_more : (k : ℕ) → 0 < k → (action_to t line barred m ≡ 0 → ⊥)
      → run_to t line barred k m ≡ after (run_to t line barred (k - 1)) (moved_by t (action_to t line barred m) m)
  unfolding run_to
  run_to_more zero h e = absurd (not-suc-le-zero h)
  run_to_more (suc k) h e = rw (ne_eqb (action_to t line barred m) 0 e, sub-one (suc k))

-- a relation of ends that holds of each end and itself, and of an end at the bar and the run from there, holds of both runs
module _ (t line : List ℕ) (barred : Bool) (P : Outcome → Outcome → Type 0) (same : (o : Outcome) → P o o)
    (stopped : barred ≡ true → (k : ℕ) (m : Machine) → P (record { number = 31; final = m }) (run t line k m)) where
  after_both : (k : ℕ) → ((m : Machine) → P (run_to t line barred k m) (run t line k m)) → (x : Next) → P (after (run_to t line barred k) x) (after (run t line k) x)
  unfolding after
  after_both k ih (ended n m) = same _
  after_both k ih (moved m) = ih m
  after_both k ih (accepted m) = same _

  pub both_runs : (k : ℕ) (m : Machine) → P (run_to t line barred k m) (run t line k m)
  unfolding run_to run
  both_runs zero m = go (acts t line barred m)
    where
      go : Acts t line barred m → P (run_to t line barred zero m) (run t line zero m)
      go (at_bar b h z) = rw (run_to_wrong t line barred m zero z) (stopped b zero m)
      go (no_bar h e) = rw e (same _)
  both_runs (suc k) m = go (acts t line barred m) (λ m'. both_runs k m')
    where
      go : Acts t line barred m → ((m : Machine) → P (run_to t line barred k m) (run t line k m)) → P (run_to t line barred (suc k) m) (run t line (suc k) m)
      go (at_bar b h z) ih = rw (run_to_wrong t line barred m (suc k) z) (stopped b (suc k) m)
      go (no_bar h e) ih = rw e (choose (eqb (action_of t line m) 0))
        where
          choose : (b : Bool) → P (cond b (record { number = 31; final = m }) (after (run_to t line barred k) (moved_by t (action_of t line m) m)))
              (cond b (record { number = 31; final = m }) (after (run t line k) (moved_by t (action_of t line m) m)))
          choose true = same _
          choose false = after_both k ih (moved_by t (action_of t line m) m)

pub run_to_whole : (t l : List ℕ) (k : ℕ) (m : Machine) → run_to t l false k m ≡ run t l k m
run_to_whole t l = both_runs t l false (λ o p. o ≡ p) (λ o. refl) (λ e. absurd (false≢true e))

module _ (t l : List ℕ) (m : Machine) where
  pub run_wrong : (k : ℕ) → action_of t l m ≡ 0 → run t l k m ≡ record { number = 31; final = m }
  unfolding action_to
  run_wrong k e = sym (run_to_whole t l k m) ∙ run_to_wrong t l false m k e

  pub run_none : (k : ℕ) → k ≡ 0 → (action_of t l m ≡ 0 → ⊥) → run t l k m ≡ record { number = 32; final = m }
  unfolding action_to
  run_none k z e = sym (run_to_whole t l k m) ∙ run_to_none t l false m k z e

  pub run_more : (k : ℕ) → 0 < k → (action_of t l m ≡ 0 → ⊥) → run t l k m ≡ after (run t l (k - 1)) (moved_by t (action_of t l m) m)
  unfolding action_to
  run_more k h e =
      sym (run_to_whole t l k m) ∙ run_to_more t l false m k h e
      ∙ after_both t l false (λ o p. o ≡ p) (λ o. refl) (λ e. absurd (false≢true e)) (k - 1) (run_to_whole t l (k - 1)) (moved_by t (action_of t l m) m)

-- whatever comes of a step: an end where it stands, or one step more with a position no less
pub step_each : (P : Next → Type 0) (t : List ℕ) (a : ℕ) (m : Machine) → ((n : ℕ) → P (ended n m))
    → ((m' : Machine) → m'.steps ≡ m.steps + 1 → m.position ≤ m'.position → P (moved m')) → ((m' : Machine) → m'.steps ≡ m.steps + 1 → m.position ≤ m'.position → P (accepted m'))
    → P (moved_by t a m)
unfolding moved_by shifted reduced reduced_to
step_each P t a m e f g =
    either P (ltb a 1024) (λ _. either P (ltb m.depth (length m.stack)) (λ _. f _ refl (omega arith)) (λ _. e 33))
    (λ _. either P (eqb a accept) (λ _. g _ refl (omega arith))
    (λ _. either P (ltb m.listed (length m.list))
    (λ _. either P (ltb (length_of t (a - 1024)) m.depth)
    (λ _. either P (eqb (cell_of t (top_of m.stack (m.depth - length_of t (a - 1024))) (left_of t (a - 1024))) 0) (λ _. e 35)
    (λ _. either P (ltb (m.depth - length_of t (a - 1024)) (length m.stack)) (λ _. f _ refl (omega arith)) (λ _. e 33)))
    (λ _. e 35))
    (λ _. e 34)))
