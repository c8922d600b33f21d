-- A part of the area is zeroed.
use mathlib.Core.Path.{◌≡◌}
use mathlib.Core.List.{List}
use Prim.Native.Nat.{ℕ, ◌-◌, ◌≤◌, ◌<◌}
use native.Mathlib.Omega.{arith}
use lib.ListN.{length, get_or, replicate}
use Rattle.std.proofs.lemmas.List.{places}
use borrow.Rule.Slice.PartMut.{mid_of, put_mid}

-- the places from b to e are 0, the others as they were
pub record Cleared (w : List ℕ) (b e : ℕ) (w' : List ℕ) : Type 0 where
  pub long : length w' ≡ length w
  pub zero : (i : ℕ) → b ≤ i → i < e → get_or w' i 0 ≡ 0
  pub low : (i : ℕ) → i < b → get_or w' i 0 ≡ get_or w i 0
  pub high : (i : ℕ) → e ≤ i → get_or w' i 0 ≡ get_or w i 0

-- what `w[b..e].fill(0)` leaves
module _ (w u : List ℕ) (b e : ℕ) (le : b ≤ e) (room : e ≤ length w) (zeros : u ≡ replicate (length (mid_of b (e - b) w)) 0) where
  abbrev after : List ℕ
  after = put_mid b (e - b) w u

  u_long : length u ≡ e - b
  u_long = grind (arith, places)

  pub cleared : Cleared w b e after
  cleared = let l = u_long in record {
    long = grind (arith, places);
    zero = λ i h k. grind (arith, places);
    low = λ i h. grind (arith, places);
    high = λ i h. grind (arith, places);
  }
