-- What a shift or a reduction on the second area makes of a fresh reading.
use Prim.Native.Nat.{ℕ, ◌+◌, ◌<◌, ◌≤◌}
use mathlib.Core.Path.{◌≡◌, refl}
use mathlib.Core.Logic.{◌≢◌}
use mathlib.Core.List.{List, [], ◌∷◌, ◌++◌}
use lib.ListN.{length, drop}
use native.Mathlib.Omega.{arith}
use Rattle.sets.specs.Lists.{peek, rest}
use Rattle.tables.specs.Layout.{cell_of, left_of, length_of, reduction, accept}
use Rattle.machine.specs.Stops.{Stops}
use Rattle.machine.specs.Exploration.{Comes, unlisted, Cut, no_place_left, broken_off}
use Rattle.machine.proofs.LrMachineLaws.{conf, Step}
use Rattle.unlisted_steps.specs.Spot.{Stands, Shifts, Reduces}
use Rattle.unlisted_steps.specs.declared.Spot.{Spot}
use Rattle.std.specs.Prelude.{Result, Ok, Err}
use Rattle.unlisted_steps.specs.declared.Stop.{Stop}
use Rattle.exploration.proofs.Fresh.{comes_step, stops_full, stops_broken}

-- the fresh reading is cut short here
pub record Stopped (t : List ℕ) (limit places left q : ℕ) (qs x out : List ℕ) : Type 0 where
  pub number : ℕ
  pub stops : Stops t (unlisted limit places left) (conf (q ∷ qs) x out) number
  pub cut : Cut number

-- the stack after a reduction by production r, and the spot there
pub record Reduced (t st : List ℕ) (s : Spot) (q : ℕ) (qs : List ℕ) (r : ℕ) (n : Spot) : Type 0 where
  pub under : ℕ
  pub below : List ℕ
  pub popped : drop (length_of t r) (q ∷ qs) ≡ under ∷ below
  pub some : 0 < cell_of t under (left_of t r)
  pub stands : Stands t st n (cell_of t under (left_of t r)) (under ∷ below)
  pub less : n.left + 1 ≡ s.left

module _ {t st : List ℕ} {s : Spot} {q : ℕ} {qs : List ℕ} where
  pub shifted : {a : ℕ} {x : Result Spot Stop} {n : Spot} → Shifts t st s q qs a x → x ≡ Ok n → Stands t st n a (q ∷ qs) × (n.left + 1 ≡ s.left)
  shifted {n = n} (Shifts.moved {n = m} h l) e = let z : m ≡ n = cc in rw (← z) (h, l)
  shifted (Shifts.full h) e = cc

  pub reduced : {r : ℕ} {x : Result Spot Stop} {n : Spot} → Reduces t st s q qs r x → x ≡ Ok n → Reduced t st s q qs r n
  reduced {n = n} (Reduces.moved {n = m} p ps d z h l) e =
      let y : m ≡ n = cc in rw (← y) (record { under = p; below = ps; popped = d; some = z; stands = h; less = l })
  reduced (Reduces.full p ps d z h) e = cc
  reduced (Reduces.broken b) e = cc

within : {t st : List ℕ} {places : ℕ} {n : Spot} {p : ℕ} {ps : List ℕ} → length st ≡ places → Stands t st n p ps → length (p ∷ ps) ≤ places
within long h = omega (arith, h.deep, h.within)

module _ {t st : List ℕ} (s : Spot) {q : ℕ} {qs : List ℕ} {limit places : ℕ} {input x out : List ℕ} (f : Comes t limit places input (conf (q ∷ qs) x out) s.left) (long : length st ≡ places) where
  pub shift_comes : {a : ℕ} {n : Spot} → cell_of t q (peek x) ≡ a → 0 < a → a < 1024 → Stands t st n a (q ∷ qs) → n.left + 1 ≡ s.left
      → Comes t limit places input (conf (a ∷ q ∷ qs) (rest x) out) n.left
  shift_comes {a} e h k d l = comes_step f (Step.shift a e h k) (within long d) l

  pub shift_stops : {a : ℕ} {y : Result Spot Stop} → cell_of t q (peek x) ≡ a → 0 < a → a < 1024 → 0 < s.left → Shifts t st s q qs a y → {g : Stop} → y ≡ Err g
      → Stopped t limit places s.left q qs x out
  shift_stops e h k more (Shifts.moved _ _) z = cc
  shift_stops {a} e h k more (Shifts.full z) _ =
      record { number = 33; stops = stops_full f (Step.shift a e h k) more (omega (arith, z, long)); cut = no_place_left }

  module _ {r : ℕ} (e : cell_of t q (peek x) ≡ reduction r) (ne : reduction r ≢ accept) where
    pub reduce_comes : {n : Spot} (d : Reduced t st s q qs r n)
        → Comes t limit places input (conf (cell_of t d.under (left_of t r) ∷ d.under ∷ d.below) x (out ++ r ∷ [])) n.left
    reduce_comes d = comes_step f (Step.reduce r d.under d.below _ e ne d.popped refl d.some) (within long d.stands) d.less

    pub reduce_stops : {y : Result Spot Stop} → 0 < s.left → Reduces t st s q qs r y → {g : Stop} → y ≡ Err g → Stopped t limit places s.left q qs x out
    reduce_stops more (Reduces.moved _ _ _ _ _ _) y = cc
    reduce_stops more (Reduces.full p ps d z h) _ =
        record { number = 33; stops = stops_full f (Step.reduce r p ps _ e ne d refl z) more (omega (arith, h, long)); cut = no_place_left }
    reduce_stops more (Reduces.broken b) _ = record { number = 35; stops = stops_broken f r e ne b more; cut = broken_off }
