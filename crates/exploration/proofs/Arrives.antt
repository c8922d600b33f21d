-- What the loop of `arrive` keeps, and the laws of its ways out, in the values that the code has.
use Prim.Native.Nat.{ℕ, suc, ◌+◌, ◌-◌, ◌*◌, ◌<◌, ◌≤◌}
use mathlib.Core.Path.{◌≡◌, refl, sym, ◌∙◌}
use mathlib.Core.Bool.{true}
use mathlib.Core.Logic.{◌≢◌}
use mathlib.Core.List.{List, [], ◌∷◌, ◌++◌}
use native.Mathlib.Omega.{arith}
use lib.ListN.{length, get_or, set, drop, drop_of_length-le}
use lib.Seq.{drop-cons}
use Rattle.tables.specs.Layout.{states, terminals, productions, cell_of, reduction, accept}
use Rattle.tables.specs.declared.Shape.{Shape}
use Rattle.machine.specs.Checks.{input_ok}
use Rattle.machine.specs.Stops.{Stops, wrong_here}
use Rattle.machine.specs.Exploration.{unlisted, Cut, no_steps_left}
use Rattle.machine.proofs.Checked.{Checked, shift_passed, reduce_passed}
use Rattle.machine.proofs.LrMachineLaws.{conf, wrong}
use Rattle.machine.proofs.Shifts.{Below}
use Rattle.unlisted_steps.specs.Spot.{Readable, Stands, Standing, Shifts, Reduces}
use Rattle.unlisted_steps.specs.declared.Spot.{Spot}
use Rattle.machine.proofs.Shifts.{below_top}
use Rattle.std.specs.Prelude.{Result, Ok, Err}
use Rattle.unlisted_steps.specs.declared.Stop.{Stop}
use Rattle.exploration.specs.Reaches.{Reaches}
use Rattle.exploration.specs.Phases.{NoneFollows, CutFor}
use Rattle.exploration.proofs.Fresh.{alone, comes_start, stops_spent, explored, cut_for}
use Rattle.exploration.proofs.Moves.{shifted, reduced, shift_comes, shift_stops, reduce_comes, reduce_stops}
use Rattle.exploration.proofs.Cells.{line_terminal, accept_passed, cell_up_fits, cell_up_is}

-- state 0 alone, before the line
pub reaches_start : {t : List ℕ} → Checked t → (line st : List ℕ) (limit : ℕ) → 0 < length st
    → Reaches t limit (length st) line (set st 0 0) line (record { depth = 1; left = limit; top = 0 })
reaches_start pa line [] limit h = absurd (omega arith)
reaches_start pa line (a ∷ st) limit h = record {
  state = 0;
  under = [];
  listed = [];
  long = refl;
  stands = record { deep = refl; within = omega arith; stacked = refl; top_is = refl; below = Below.more pa.sizes.states_are.0 Below.none };
  comes = λ y. comes_start (line ++ y) (omega arith);
}

-- ---- with a terminal x of the line ahead

module _ {t line st ahead : List ℕ} {limit places x : ℕ} {s : Spot} (r : Reaches t limit places line st (x ∷ ahead) s) where
  none_follows : cell_of t r.state x ≡ 0 → NoneFollows t limit places line
  none_follows e m h = explored {m = m} (λ _ z. (let z : ◌≡◌ {A = ℕ} 0 1 = cc in absurd (omega arith))) (r.comes (alone m)) (wrong_here (wrong e))

  cut_here : {n : ℕ} → Stops t (unlisted limit places s.left) (conf (r.state ∷ r.under) (x ∷ (ahead ++ [])) r.listed) n → Cut n → CutFor t limit places line 0
  cut_here w c = cut_for {m = 0} (λ n. absurd (n refl)) (r.comes []) w c

  spent_here : cell_of t r.state x ≢ 0 → s.left ≡ 0 → CutFor t limit places line 0
  spent_here n e = cut_here (stops_spent (r.comes []) n e) no_steps_left

  module _ {st' : List ℕ} (long : length st' ≡ length st) (more : 0 < s.left) where
    shift_next : {a : ℕ} {y : Result Spot Stop} {n : Spot} → cell_of t r.state x ≡ a → 0 < a → a < 1024 → Shifts t st' s r.state r.under a y → y ≡ Ok n
        → Reaches t limit places line st' ahead n × (n.left < s.left)
    shift_next {a} e h k d ey =
        let z = shifted d ey in (
          record {
            state = a;
            under = r.state ∷ r.under;
            listed = r.listed;
            long = long ∙ r.long;
            stands = z.0;
            comes = λ y. shift_comes s (r.comes y) (long ∙ r.long) e h k z.0 z.1;
          },
          omega (arith, z.1),
        )

    shift_cut : {a : ℕ} {y : Result Spot Stop} → cell_of t r.state x ≡ a → 0 < a → a < 1024 → Shifts t st' s r.state r.under a y → {g : Stop} → y ≡ Err g → CutFor t limit places line 0
    shift_cut e h k d ey = let w = shift_stops s (r.comes []) (long ∙ r.long) e h k more d ey in cut_here w.stops w.cut

    reduce_next : {p : ℕ} {y : Result Spot Stop} {n : Spot} → cell_of t r.state x ≡ reduction p → reduction p ≢ accept → Reduces t st' s r.state r.under p y → y ≡ Ok n
        → Reaches t limit places line st' (x ∷ ahead) n × (n.left < s.left)
    reduce_next {p} e ne d ey =
        let z = reduced d ey in (
          record {
            state = _;
            under = z.under ∷ z.below;
            listed = r.listed ++ p ∷ [];
            long = long ∙ r.long;
            stands = z.stands;
            comes = λ y. reduce_comes s (r.comes y) (long ∙ r.long) e ne z;
          },
          omega (arith, z.less),
        )

    reduce_cut : {p : ℕ} {y : Result Spot Stop} → cell_of t r.state x ≡ reduction p → reduction p ≢ accept → Reduces t st' s r.state r.under p y → {g : Stop} → y ≡ Err g → CutFor t limit places line 0
    reduce_cut e ne d ey = let w = reduce_stops s (r.comes []) (long ∙ r.long) e ne more d ey in cut_here w.stops w.cut

-- ---- in the loop

drop_next : (line : List ℕ) (i : ℕ) → i < length line → drop i line ≡ get_or line i 0 ∷ drop (i + 1) line
drop_next line i h = let e : suc i ≡ i + 1 = omega arith in rw e at (drop-cons line i 0 h)

pub arrived : {t line st : List ℕ} {limit places i : ℕ} {s : Spot} → Reaches t limit places line st (drop i line) s → length line ≤ i → Reaches t limit places line st [] s
arrived {line = line} {i = i} r h = rw (drop_of_length-le line {i = i} h) at r

module _ {t line cs st : List ℕ} {limit places i : ℕ} {z : Shape} {s : Spot} (rd : Readable t cs z) (ok : input_ok t line ≡ true)
    (r : Reaches t limit places line st (drop i line) s) (h : i < length line) where
  next : (0 < get_or line i 0) × (get_or line i 0 < terminals t)
  next = line_terminal t line ok i h

  here : Reaches t limit places line st (get_or line i 0 ∷ drop (i + 1) line) s
  here = rw (drop_next line i h) at r

  top_in : here.state < states t
  top_in = below_top here.stands.below

  pub action_fits : get_or line i 0 + s.top * z.width < length cs
  action_fits = rw here.stands.top_is (cell_up_fits rd here.state (get_or line i 0) top_in next.1)

  module _ {a : ℕ} (e : a ≡ get_or cs (get_or line i 0 + s.top * z.width) 0) where
    cell : cell_of t here.state (get_or line i 0) ≡ a
    cell = sym (cell_up_is rd here.state (get_or line i 0) top_in next.1) ∙ rw (← here.stands.top_is) (sym e)

    pub wrong_ends : a ≡ 0 → NoneFollows t limit places line
    wrong_ends n = none_follows here (cell ∙ n)

    module _ (nz : a ≡ 0 → ⊥) where
      pub spent_ends : s.left ≡ 0 → CutFor t limit places line 0
      spent_ends n = spent_here here (λ y. nz (sym cell ∙ y)) n

      module _ (more : s.left ≡ 0 → ⊥) where
        module _ (k : a < 1024) {y : Result Spot Stop} {st' : List ℕ} (long : length st' ≡ length st)
            (f : (t : List ℕ) (q : ℕ) (qs : List ℕ) → Stands t st s q qs → a < states t → Shifts t st' s q qs a y) where
          shift_does : Shifts t st' s here.state here.under a y
          shift_does =
              f t _ _ here.stands
              (rw (← cell) (shift_passed rd.checked here.state (get_or line i 0) top_in next.1 (omega (arith, nz, cell)) (omega (arith, cell))).0)

          pub shift_goes : {n : Spot} → y ≡ Ok n → Reaches t limit places line st' (drop (i + 1) line) n × (n.left < s.left)
          shift_goes ey = shift_next here long (omega (arith, more)) cell (omega (arith, nz)) k shift_does ey

          pub shift_ends : {g : Stop} → y ≡ Err g → CutFor t limit places line 0
          shift_ends ey = shift_cut here long (omega (arith, more)) cell (omega (arith, nz)) k shift_does ey

        module _ (k : 1024 ≤ a) where
          by : reduction (a - 1024) ≡ a
          by = omega (arith, k)

          not_accept : a ≢ accept
          not_accept y = let z = accept_passed rd.checked here.state (get_or line i 0) top_in next.1 (cell ∙ y) in omega (arith, z, next.0)

          pub reduce_asks : Readable t cs z × Standing t st s × (a - 1024 < productions t) × (0 < s.left)
          reduce_asks = (
            rd,
            record { state = _; under = _; stands = r.stands },
            rw (← cell) (reduce_passed rd.checked here.state (get_or line i 0) top_in next.1 (omega (arith, cell)) (λ y. not_accept (sym cell ∙ y))),
            omega (arith, more),
          )

          module _ {y : Result Spot Stop} {st' : List ℕ} (long : length st' ≡ length st) (f : (q : ℕ) (qs : List ℕ) → Stands t st s q qs → Reduces t st' s q qs (a - 1024) y) where
            pub reduce_goes : {n : Spot} → y ≡ Ok n → Reaches t limit places line st' (drop i line) n × (n.left < s.left)
            reduce_goes ey =
                let g = reduce_next here long (omega (arith, more)) (cell ∙ sym by) (λ y. not_accept (sym by ∙ y)) (f _ _ here.stands) ey in
                (rw (← drop_next line i h) at g.0, g.1)

            pub reduce_ends : {g : Stop} → y ≡ Err g → CutFor t limit places line 0
            reduce_ends ey = reduce_cut here long (omega (arith, more)) (cell ∙ sym by) (λ y. not_accept (sym by ∙ y)) (f _ _ here.stands) ey
