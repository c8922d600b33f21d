-- What the checks and the state between steps give each call of the loop.
use mathlib.Core.Path.{◌≡◌, sym, ap, ◌∙◌}
use mathlib.Core.Bool.{Bool, true, false, cond, not, ◌&&◌}
use mathlib.Core.List.{List, ◌∷◌, []}
use Prim.Native.Nat.{ℕ, zero, suc, ◌+◌, ◌-◌, ◌*◌, ◌^◌, ◌<◌, ◌≤◌, zero-le}
use native.Mathlib.Omega.{arith}
use lib.ListN.{length, set, get_or, drop, length-set}
use lib.Seq.{get_or-set_same}
use lib.Dec.{ltb}
use Rattle.tables.specs.Layout.{states, terminals, width, cell_of}
use Rattle.machine.specs.ComputedRun.{top_of, action_of}
use Rattle.machine.specs.RunTo.{action_to}
use Rattle.tables.specs.Shape.{Shaped}
use Rattle.tables.specs.declared.Shape.{Shape}
use Rattle.tables.proofs.Places.{cell_up}
use Rattle.machine.proofs.Checked.{Passed, shift_passed, reduce_passed, next_passed, cell_within}
use Rattle.steps.specs.State.{machine_of, Held, Steppable}
use Rattle.steps.specs.declared.State.{State}

-- where a terminal stands, the input has not ended
before_end : (l : List ℕ) (i : ℕ) → 0 < get_or l i 0 → i < length l
before_end [] i h = absurd (omega arith)
before_end (x ∷ l) zero h = omega arith
before_end (x ∷ l) (suc i) h = let k = before_end l i h in omega arith

-- the stack starts with state 0, and the whole limit is left
pub held_start : {t l cs li : List ℕ} {z : Shape} (st : List ℕ) (a : ℕ) → Passed t l (length st) → Shaped t z → cs ≡ drop z.cells t
    → Held t cs (set st 0 0) li z (record { depth = 1; listed = 0; position = 0; left = a; top = 0 })
unfolding top_of
held_start st a p s e =
    let first : get_or (set st 0 0) 0 0 ≡ 0 = get_or-set_same st 0 0 0 p.places in
    record {
      checked = p.table;
      shaped = s;
      rows = e;
      deep = omega arith;
      within = rw length-set p.places;
      room = zero-le;
      passed = zero-le;
      states_in = λ i h.
          let i0 : i ≡ 0 = omega arith in
          rw (i0, first, s.states_are) p.table.sizes.states_are.0;
      top_is = sym first;
    }

-- an action that is not 0 stands at no bar
unbarred : (b : Bool) {x v : ℕ} → x ≡ cond b 0 v → (x ≡ 0 → ⊥) → x ≡ v
unbarred true e nz = absurd (nz e)
unbarred false e nz = e

in_width : (t : List ℕ) {x : ℕ} → x < terminals t → x < width t
unfolding width
in_width t h = omega arith

module _ {t cs st li : List ℕ} {z : Shape} {s : State} (h : Held t cs st li z s) where
  top_in : s.top < states t
  unfolding top_of
  top_in = rw (h.top_is, ← h.shaped.states_are) (h.states_in (s.depth - 1) (let d = h.deep in omega arith))

  module _ {l : List ℕ} {n : ℕ} (p : Passed t l n) where
    pub action_within : get_or l s.position 0 + s.top * z.width < length cs
    action_within =
        let w : s.top * z.width + get_or l s.position 0 < length cs =
        rw h.rows (cell_within h.checked h.shaped s.top (get_or l s.position 0) top_in (in_width t (next_passed p s.position))) in
        omega arith

    cell_value : get_or cs (get_or l s.position 0 + s.top * z.width) 0 ≡ cell_of t s.top (get_or l s.position 0)
    cell_value = rw h.rows (cell_up h.shaped s.top (get_or l s.position 0))

    module _ (barred : Bool) {x : ℕ} (ex : x ≡ cond (barred && not (ltb s.position (length l))) 0 (get_or cs (get_or l s.position 0 + s.top * z.width) 0)) where
      pub action_is : x ≡ action_to t l barred (machine_of st li s)
      unfolding action_to action_of
      action_is = rw (← h.top_is) (ex ∙ ap (cond (barred && not (ltb s.position (length l))) 0) cell_value)

      module _ (nz : x ≡ 0 → ⊥) where
        cell_is : x ≡ cell_of t s.top (get_or l s.position 0)
        cell_is = unbarred (barred && not (ltb s.position (length l))) ex nz ∙ cell_value

        pub steppable : length l ≤ 65535 → x < 2 ^ 16 → (s.left ≡ 0 → ⊥) → Steppable t cs st li z s x
        steppable short b more = record {
          held = h;
          fits = b;
          shift_in = λ k.
              let sh = shift_passed h.checked s.top (get_or l s.position 0) top_in (next_passed p s.position) (rw (← cell_is) (omega (arith, nz))) (rw (← cell_is) k) in
              (rw (h.shaped.states_are, cell_is) sh.0, omega (arith, short, before_end l s.position sh.1));
          reduction_in = λ k y.
              rw cell_is
              (reduce_passed h.checked s.top (get_or l s.position 0) top_in (next_passed p s.position) (rw (← cell_is) k) (λ e. y (cell_is ∙ e)));
          more = omega (arith, more);
        }
