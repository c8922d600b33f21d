-- What holds between steps holds after a shift and after a reduction.
use mathlib.Core.Path.{◌≡◌, refl, sym, ap, ◌∙◌}
use mathlib.Core.List.{List}
use Rattle.std.specs.Prelude.{Option, Some, Result, Ok, Err}
use Prim.Native.Nat.{ℕ, ◌+◌, ◌-◌, ◌*◌, ◌<◌, ◌≤◌}
use native.Mathlib.Omega.{arith}
use lib.ListN.{length, get_or, set, length-set}
use lib.Seq.{get_or-set_same}
use Rattle.tables.specs.Layout.{states, left_of, length_of, cell_of}
use Rattle.machine.specs.ComputedRun.{popped, top_of, shifted, reduced_to, reduced}
use Rattle.machine.specs.ComputedRun as machine
use Rattle.tables.specs.declared.Shape.{Shape}
use Rattle.tables.proofs.Places.{cell_in}
use Rattle.machine.proofs.Checked.{left_passed, goto_passed, cell_within, left_within}
use Rattle.steps.specs.State.{machine_of, Held, Stepped, Reducible}
use Rattle.steps.specs.declared.Stop.{Stop}
use Rattle.steps.specs.declared.Stop.TheVariants.{StackFull, Broken}
use Rattle.machine.proofs.RunLaws.{popped_length, popped_at, states_more, shifted_goes, reduced_to_none, reduced_to_full, reduced_to_goes, reduced_to_is}
use Rattle.steps.specs.declared.State.{State}

top_more : (st : List ℕ) (d q : ℕ) → d < length st → q ≡ top_of (set st d q) (d + 1)
unfolding top_of
top_more st d q h = let e : d + 1 - 1 ≡ d = omega arith in rw e (sym (get_or-set_same st d q 0 h))

-- a step by the same next
pub restep : {t cs st li : List ℕ} {z : Shape} {s : State} {x : Result (Option State) Stop} {m m' : machine.Next} → m ≡ m' → Stepped t cs z s st li x m → Stepped t cs z s st li x m'
restep e y = record { next = y.next ∙ e; held = y.held }

module _ {t cs st li : List ℕ} {z : Shape} {s : State} where
  kept_shift : Held t cs st li z s → (a : ℕ) → a < z.states → s.position < 65535 → s.depth < length st
      → Held t cs (set st s.depth a) li z (record { depth = s.depth + 1; listed = s.listed; position = s.position + 1; left = s.left - 1; top = a })
  kept_shift h a b p k = record {
    checked = h.checked;
    shaped = h.shaped;
    rows = h.rows;
    deep = omega arith;
    within = rw length-set (omega arith);
    room = h.room;
    passed = omega (arith, p);
    states_in = states_more st s.depth a z.states k b h.states_in;
    top_is = top_more st s.depth a k;
  }

  pub shift_goes : Held t cs st li z s → 0 < s.left → (a : ℕ) → a < z.states → s.position < 65535 → s.depth < length st
      → Stepped t cs z s (set st s.depth a) li (Ok (Some (record { depth = s.depth + 1; listed = s.listed; position = s.position + 1; left = s.left - 1; top = a })))
      (shifted a (machine_of st li s))
  shift_goes h more a b p k = record {
    next = let e : s.position + 1 + s.listed ≡ s.position + s.listed + 1 = omega arith in rw e (sym (shifted_goes a (machine_of st li s) k));
    held = (kept_shift h a b p k, omega arith, omega arith);
  }

  module _ {r n under : ℕ} (g : Reducible t cs st li z s r n under) where
    h : Held t cs st li z s
    h = g.held

    -- the state under the popped ones is a state of the table
    pub under_in : under < states t
    unfolding top_of
    under_in = rw (← h.shaped.states_are, g.under_is) (h.states_in (s.depth - n - 1) (let l = g.less in omega arith))

    pub left_in : 4 + r < length t
    left_in = left_within h.checked r g.production

    module _ {l : ℕ} (el : l ≡ left_of t r) where
      pub goto_in : under * z.width + l < length cs
      goto_in = rw (h.rows, el) (cell_within h.checked h.shaped under (left_of t r) under_in (left_passed h.checked r g.production).1)

      module _ {q : ℕ} (eq : q ≡ get_or cs (under * z.width + l) 0) where
        pub goto_is : q ≡ cell_of t under (left_of t r)
        goto_is = eq ∙ rw (h.rows, el) (cell_in h.shaped under (left_of t r))

        pub kept_reduce : {p : List ℕ} → p ≡ popped st s.depth n → s.depth - n < length st
            → Held t cs (set p (s.depth - n) q) (set li s.listed r) z (record { depth = s.depth - n + 1; listed = s.listed + 1; position = s.position; left = s.left - 1; top = q })
        kept_reduce {p} ep k =
            let lp = left_passed h.checked r g.production in
            let qb : q < z.states = rw (goto_is, h.shaped.states_are) (goto_passed h.checked under (left_of t r) under_in lp.0 lp.1) in
            let long : length p ≡ length st = rw ep (popped_length st s.depth n) in
            let low : s.depth - n < length p = omega arith in
            let f = g.free in
            let d = g.less in
            record {
              checked = h.checked;
              shaped = h.shaped;
              rows = h.rows;
              deep = omega arith;
              within = rw length-set (omega arith);
              room = rw length-set (omega arith);
              passed = h.passed;
              states_in = states_more p (s.depth - n) q z.states low qb
                  (λ i b. rw (ep, popped_at st s.depth n i (omega arith) b) (h.states_in i (omega arith)));
              top_is = top_more p (s.depth - n) q low;
            }

        -- the three ways of a reduction, in the values of the code
        pub reduce_none : q ≡ 0 → Stepped t cs z s st li (Err Broken) (reduced_to r n (s.depth - n) (cell_of t under (left_of t r)) (machine_of st li s))
        reduce_none e = record { next = sym (reduced_to_none _ _ _ _ _ (sym goto_is ∙ e)); held = tt }

        pub reduce_full : (q ≡ 0 → ⊥) → length st ≤ s.depth - n
            → Stepped t cs z s st li (Err StackFull) (reduced_to r n (s.depth - n) (cell_of t under (left_of t r)) (machine_of st li s))
        reduce_full e k = record { next = sym (reduced_to_full _ _ _ _ _ (λ y. e (goto_is ∙ y)) k); held = tt }

        pub reduce_goes : {p : List ℕ} → p ≡ popped st s.depth n → (q ≡ 0 → ⊥) → s.depth - n < length st
            → Stepped t cs z s (set p (s.depth - n) q) (set li s.listed r)
            (Ok (Some (record { depth = s.depth - n + 1; listed = s.listed + 1; position = s.position; left = s.left - 1; top = q })))
            (reduced_to r n (s.depth - n) (cell_of t under (left_of t r)) (machine_of st li s))
        reduce_goes {p} ep e₀ k = record {
          next =
              let e : s.position + (s.listed + 1) ≡ s.position + s.listed + 1 = omega arith in
              rw e
              (reduced_to_goes r n (s.depth - n) q (machine_of st li s) p ep e₀ k
              ∙ ap (λ (v : ℕ). reduced_to r n (s.depth - n) v (machine_of st li s)) goto_is);
          held = (kept_reduce ep k, (let b = g.more in omega arith), omega arith);
        }

    -- the reduction of a production's own length
    pub reduce_as : {st' li' : List ℕ} {x : Result (Option State) Stop} → length_of t r ≡ n
        → Stepped t cs z s st' li' x (reduced_to r n (s.depth - n) (cell_of t under (left_of t r)) (machine_of st li s))
        → Stepped t cs z s st' li' x (reduced t r (machine_of st li s))
    reduce_as e y =
        restep
        (reduced_to_is t r (machine_of st li s) n (left_of t r) (cell_of t under (left_of t r)) (sym e) refl (ap (λ (q : ℕ). cell_of t q (left_of t r)) g.under_is) g.free g.less)
        y
