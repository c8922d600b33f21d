-- The run up to the first closed terminal is the run of the table with 0 in the closed columns over the whole input, and the run over the line where its steps give out.
use Prim.Native.Nat.{ℕ, zero, suc, ◌+◌, ◌-◌, ◌<◌, ◌≤◌}
use mathlib.Core.Path.{◌≡◌, refl, sym, ap, ◌∙◌}
use mathlib.Core.Logic.{◌⊎◌, inl, inr, ⊎_elim}
use mathlib.Core.Bool.{Bool, true, false, cond}
use mathlib.Core.List.{List, [], ◌++◌, append-nil}
use lib.ListN.{length, get_or, set, length-append, length-set, get_or-append, get_or-eq_default}
use lib.Seq.{get_or-set_same, take_at}
use lib.Dec.{ltb, eqb}
use borrow.Author.Tests.{ltb-true, ltb-false, eqb-false}
use native.Mathlib.Omega.{arith}
use Rattle.sets.specs.Bit.{Has}
use Rattle.sets.specs.Lists.{peek}
use Rattle.sets.proofs.HasLaws.{lt_or_ge}
use Rattle.tables.specs.Layout.{states, productions, width, left_of, length_of, accept, cell_of}
use Rattle.machine.specs.Checks.{input_ok, closed_ok}
use Rattle.machine.specs.Restricted.{Open, OpenLine}
use Rattle.machine.specs.ComputedRun.{Machine, Next, ended, moved, accepted, popped, top_of, action_of, shifted, reduced_to, reduced, moved_by, Outcome, after, run, start, masked}
use Rattle.machine.specs.RunTo.{action_to, run_to}
use Rattle.machine.proofs.Checked.{Passed, below_width, shift_passed, reduce_passed, left_passed, goto_passed, next_passed}
use Rattle.machine.proofs.MaskedLaws.{open_end, masked_length, masked_left, masked_open, masked_closed, masked_goto}
use Rattle.machine.proofs.Shifts.{behind_line}
use Rattle.machine.proofs.RunLaws.{either, popped_length, popped_at, states_more, Acts, at_bar, no_bar, acts, both_runs}
use Rattle.machine.proofs.Explorations.{run_on, input_front}
use Rattle.machine.proofs.ReadsLaws.{ends_within}

-- ---- beside the run over the line

pub run_to_spent : (t line : List ℕ) (barred : Bool) (k : ℕ) (m x : Machine) → run_to t line barred k m ≡ record { number = 32; final = x } → run t line k m ≡ record { number = 32; final = x }
run_to_spent t line barred k m x =
    both_runs t line barred (λ o p. o ≡ record { number = 32; final = x } → p ≡ record { number = 32; final = x }) (λ o e. e)
    (λ _ j m e. let z : 31 ≡ 32 = ap (λ (o : Outcome). o.number) e in absurd (omega (arith, z))) k m

pub run_to_within : {t line : List ℕ} (barred : Bool) (st li : List ℕ) → Passed t line (length st) → (k : ℕ) → (run_to t line barred k (start st li)).final.position ≤ length line
run_to_within {t} {line} barred st li pa k =
    let a = both_runs t line barred (λ o p. o.final.position ≤ p.final.position) (λ o. omega arith) (λ _ j m. run_on t line j m) k (start st li) in
    let b = ends_within t line st li k pa in
    omega arith

-- ---- the table with 0 in the closed columns

-- line is the input up to its first closed terminal, which barred says there is
pub record Front (closed : ℕ) (l line : List ℕ) (barred : Bool) : Type 0 where
  pub behind : List ℕ
  pub whole : line ++ behind ≡ l
  pub unclosed : OpenLine closed line
  pub bar : barred ≡ true → Has closed (peek behind)
  pub all : barred ≡ false → behind ≡ []

-- what holds between steps: the stack holds states of the table
record Kept (t line : List ℕ) (m : Machine) : Type 0 where
  place : m.position ≤ length line
  deep : 0 < m.depth
  within : m.depth ≤ length m.stack
  states_in : (i : ℕ) → i < m.depth → get_or m.stack i 0 < states t

-- whatever comes of a step
abbrev Each : (Machine → Type 0) → Next → Type 0
Each K (ended n m) = K m
Each K (moved m) = K m
Each K (accepted m) = K m

alike : {A : Type 0} (b : Bool) {x y x' y' : A} → (b ≡ true → x ≡ x') → (b ≡ false → y ≡ y') → cond b x y ≡ cond b x' y'
alike true f g = f refl
alike false f g = g refl

module _ {t line : List ℕ} {n : ℕ} (pa : Passed t line n) {m : Machine} (h : Kept t line m) where
  abbrev next : ℕ
  next = get_or line m.position 0

  -- the state under k popped ones
  under_in : (k : ℕ) → k < m.depth → top_of m.stack (m.depth - k) < states t
  unfolding top_of
  under_in k b = h.states_in (m.depth - k - 1) (omega arith)

  top_in : top_of m.stack m.depth < states t
  top_in = let e : m.depth - 0 ≡ m.depth = omega arith in rw e at (under_in 0 h.deep)

  production_in : 1024 ≤ action_of t line m → (action_of t line m ≡ 4096 → ⊥) → action_of t line m - 1024 < productions t
  unfolding action_of
  production_in = reduce_passed pa.table (top_of m.stack m.depth) next top_in (next_passed pa m.position)

  module _ (r : ℕ) (b : r < productions t) where
    goto_in : length_of t r < m.depth → cell_of t (top_of m.stack (m.depth - length_of t r)) (left_of t r) < states t
    goto_in k = let l = left_passed pa.table r b in goto_passed pa.table _ (left_of t r) (under_in (length_of t r) k) l.0 l.1

    reduced_kept : Each (Kept t line) (reduced t r m)
    unfolding reduced reduced_to
    reduced_kept =
        either (Each (Kept t line)) (ltb m.listed (length m.list))
        (λ _. either (Each (Kept t line)) (ltb (length_of t r) m.depth)
        (λ e. either (Each (Kept t line)) (eqb (cell_of t (top_of m.stack (m.depth - length_of t r)) (left_of t r)) 0) (λ _. h)
        (λ _. either (Each (Kept t line)) (ltb (m.depth - length_of t r) (length m.stack))
        (λ k. pushed (ltb-true (length_of t r) m.depth e) (ltb-true (m.depth - length_of t r) (length m.stack) k)) (λ _. h)))
        (λ _. h))
        (λ _. h)
      where
        pushed : length_of t r < m.depth → m.depth - length_of t r < length m.stack → Kept t line (record {
          stack = set (popped m.stack m.depth (length_of t r)) (m.depth - length_of t r) (cell_of t (top_of m.stack (m.depth - length_of t r)) (left_of t r));
          list = set m.list m.listed r;
          depth = m.depth - length_of t r + 1;
          listed = m.listed + 1;
          position = m.position;
          steps = m.steps + 1;
        })
        pushed e k =
            let long : length (popped m.stack m.depth (length_of t r)) ≡ length m.stack = popped_length m.stack m.depth (length_of t r) in
            record {
              place = h.place;
              deep = omega arith;
              within = rw length-set (omega (arith, long));
              states_in =
                  states_more (popped m.stack m.depth (length_of t r)) (m.depth - length_of t r) _ (states t) (omega (arith, long)) (goto_in e)
                  (λ i b. rw (popped_at m.stack m.depth (length_of t r) i (omega arith) b) (h.states_in i (omega arith)));
            }

  shifted_kept : action_of t line m < states t → m.position < length line → Each (Kept t line) (shifted (action_of t line m) m)
  unfolding shifted
  shifted_kept b p =
      either (Each (Kept t line)) (ltb m.depth (length m.stack))
      (λ e. let k = ltb-true m.depth (length m.stack) e in
      record {
        place = omega arith;
        deep = omega arith;
        within = rw length-set (omega arith);
        states_in = states_more m.stack m.depth (action_of t line m) (states t) k b h.states_in;
      })
      (λ _. h)

  -- a shift is of a terminal of the line
  shift_in : (action_of t line m ≡ 0 → ⊥) → action_of t line m < 1024 → (action_of t line m < states t) × (m.position < length line)
  unfolding action_of
  shift_in nz b =
      let s = shift_passed pa.table (top_of m.stack m.depth) next top_in (next_passed pa m.position) (omega (arith, nz)) b in
      (s.0, ⊎_elim (λ k. k) (λ (k : length line ≤ m.position). let z = get_or-eq_default line 0 k in absurd (omega (arith, s.1, z))) (lt_or_ge m.position (length line)))

  step_kept : (action_of t line m ≡ 0 → ⊥) → Each (Kept t line) (moved_by t (action_of t line m) m)
  unfolding moved_by
  step_kept nz =
      either (Each (Kept t line)) (ltb (action_of t line m) 1024)
      (λ e. let s = shift_in nz (ltb-true (action_of t line m) 1024 e) in shifted_kept s.0 s.1)
      (λ e. either (Each (Kept t line)) (eqb (action_of t line m) accept)
      (λ _. record { place = h.place; deep = h.deep; within = h.within; states_in = h.states_in })
      (λ f. reduced_kept (action_of t line m - 1024) (production_in (ltb-false (action_of t line m) 1024 e) (eqb-false (action_of t line m) accept f))))

  -- the same step by the table with 0 in the closed columns
  module _ (closed : ℕ) (ok : closed_ok t closed ≡ true) where
    reduced_same : (r : ℕ) → r < productions t → reduced t r m ≡ reduced (masked closed t) r m
    unfolding reduced
    reduced_same r b =
        let l = left_passed pa.table r b in
        rw (masked_length t closed r b, masked_left t closed r b)
        (alike (ltb m.listed (length m.list))
        (λ _. alike (ltb (length_of t r) m.depth)
        (λ e. ap (λ (q : ℕ). reduced_to r (length_of t r) (m.depth - length_of t r) q m)
        (sym (masked_goto t closed ok _ (left_of t r) (under_in (length_of t r) (ltb-true (length_of t r) m.depth e)) l.0 l.1)))
        (λ _. refl))
        (λ _. refl))

    step_same : moved_by t (action_of t line m) m ≡ moved_by (masked closed t) (action_of t line m) m
    unfolding moved_by
    step_same =
        alike (ltb (action_of t line m) 1024) (λ _. refl)
        (λ e. alike (eqb (action_of t line m) accept) (λ _. refl)
        (λ f. reduced_same (action_of t line m - 1024) (production_in (ltb-false (action_of t line m) 1024 e) (eqb-false (action_of t line m) accept f))))

module _ {t l line : List ℕ} {closed : ℕ} {barred : Bool} {n : ℕ} (pa : Passed t l n) (ok : closed_ok t closed ≡ true) (f : Front closed l line barred) where
  long : length line + length f.behind ≡ length l
  long = sym (length-append line f.behind) ∙ ap length f.whole

  line_passed : Passed t line n
  line_passed =
      let e : input_ok t line ≡ true =
      rw (← f.whole, take_at line f.behind (length line) refl) at (input_front t (length line) l (omega (arith, long)) pa.input_passed) in
      record { table = pa.table; input_passed = e; places = pa.places }

  module _ {m : Machine} (h : Kept t line m) where
    at_end_is : length line ≤ m.position → get_or l m.position 0 ≡ peek f.behind
    at_end_is k =
        let e : m.position ≡ length line = omega (arith, h.place) in
        rw (e, ← f.whole) (behind_line line f.behind)

    -- where no closed terminal stands behind the line, the next terminal is that of the input, and open
    next_same : (barred ≡ true → m.position < length line) → (get_or line m.position 0 ≡ get_or l m.position 0) × Open closed (get_or line m.position 0)
    next_same b = go (lt_or_ge m.position (length line)) barred refl
      where
        go : (m.position < length line) ⊎ (length line ≤ m.position) → (c : Bool) → barred ≡ c
            → (get_or line m.position 0 ≡ get_or l m.position 0) × Open closed (get_or line m.position 0)
        go (inl k) c e = (sym (get_or-append line f.behind 0 m.position k) ∙ ap (λ (z : List ℕ). get_or z m.position 0) f.whole, f.unclosed m.position k)
        go (inr k) true e = absurd (omega (arith, b e))
        go (inr k) false e =
            let whole : line ≡ l = sym (append-nil line) ∙ ap (λ (z : List ℕ). line ++ z) (sym (f.all e)) ∙ f.whole in
            (ap (λ (z : List ℕ). get_or z m.position 0) whole, rw (get_or-eq_default line 0 k) (open_end t closed ok))

    next_in : (i : ℕ) → get_or l i 0 < width t
    next_in i = below_width pa.table (get_or l i 0) (next_passed pa i)

    action_same : action_to t line barred m ≡ action_of (masked closed t) l m
    unfolding action_of
    action_same = go (acts t line barred m)
      where
        go : Acts t line barred m → action_to t line barred m ≡ cell_of (masked closed t) (top_of m.stack m.depth) (get_or l m.position 0)
        go (at_bar b k z) = z ∙ sym (masked_closed t closed (top_of m.stack m.depth) (get_or l m.position 0) (top_in line_passed h) (next_in m.position) (rw (at_end_is k) (f.bar b)))
        go (no_bar b e) =
            let s = next_same b in
            e ∙ ap (cell_of t (top_of m.stack m.depth)) s.0
            ∙ sym (masked_open t closed (top_of m.stack m.depth) (get_or l m.position 0) (top_in line_passed h) (next_in m.position) (rw s.0 at s.1))

  after_same : (k : ℕ) → ((m : Machine) → Kept t line m → run_to t line barred k m ≡ run (masked closed t) l k m) → (x : Next) → Each (Kept t line) x
      → after (run_to t line barred k) x ≡ after (run (masked closed t) l k) x
  unfolding after
  after_same k ih (ended i m) h = refl
  after_same k ih (moved m) h = ih m h
  after_same k ih (accepted m) h = refl

  kept_same : (k : ℕ) (m : Machine) → Kept t line m → run_to t line barred k m ≡ run (masked closed t) l k m
  unfolding run_to run
  kept_same zero m h = rw (action_same h) refl
  kept_same (suc k) m h =
      rw (← action_same h) (alike (eqb (action_to t line barred m) 0) (λ _. refl) (λ e. go (eqb-false (action_to t line barred m) 0 e) (acts t line barred m) (λ m h. kept_same k m h)))
    where
      go : (action_to t line barred m ≡ 0 → ⊥) → Acts t line barred m → ((m : Machine) → Kept t line m → run_to t line barred k m ≡ run (masked closed t) l k m)
          → after (run_to t line barred k) (moved_by t (action_to t line barred m) m) ≡ after (run (masked closed t) l k) (moved_by (masked closed t) (action_to t line barred m) m)
      go nz (at_bar b p z) ih = absurd (nz z)
      go nz (no_bar b e) ih =
          rw e
          (after_same k ih (moved_by t (action_of t line m) m) (step_kept line_passed h (λ z. nz (e ∙ z))) ∙ ap (after (run (masked closed t) l k)) (step_same line_passed h closed ok))

start_kept : {t line : List ℕ} (st li : List ℕ) → 0 < states t → 0 < length st → Kept t line (start st li)
unfolding start
start_kept {t} st li z p = record {
  place = omega arith;
  deep = omega arith;
  within = rw length-set p;
  states_in = λ i b. let e : i ≡ 0 = omega arith in rw (e, get_or-set_same st 0 0 0 p) z;
}

pub run_to_masked : {t l line : List ℕ} {closed : ℕ} {barred : Bool} (st li : List ℕ) → Passed t l (length st) → closed_ok t closed ≡ true → Front closed l line barred
    → (k : ℕ) → run_to t line barred k (start st li) ≡ run (masked closed t) l k (start st li)
run_to_masked st li pa ok f k = kept_same pa ok f k (start st li) (start_kept st li pa.table.sizes.states_are.0 pa.places)
