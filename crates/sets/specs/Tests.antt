-- Tests that the checks of cards and tables are made of.
use Rattle.std.specs.Prelude.{ℕ, zero, suc, Bool, true, false, ◌&&◌, leb}

-- p holds at each number below n
unfoldable pub all_below : ℕ → (ℕ → Bool) → Bool
all_below zero p = true
all_below (suc n) p = all_below n p && p n

-- lo ≤ x ≤ hi
unfoldable pub between : ℕ → ℕ → ℕ → Bool
between lo hi x = leb lo x && leb x hi

-- n where the test fails, else what follows
abbrev pub unless : Bool → ℕ → ℕ → ℕ
unless true n r = r
unless false n r = n

-- the first of two refusals, 0 being none: m, or n where m is 0
abbrev pub first_refusal : ℕ → ℕ → ℕ
first_refusal zero n = n
first_refusal (suc m) n = suc m
