-- A number in decimal digits, without leading zeros. Bytes are ASCII.
use Rattle.std.specs.Prelude.{ℕ, zero, suc, ◌+◌, ◌/◌, ◌%◌, List, [], ◌∷◌, ◌++◌, true, false, ltb}

-- a number below ten is one digit; of any other the last digit stands behind those of its tenth. The first argument bounds
-- how often that is done
unfoldable pub digits_by : ℕ → ℕ → List ℕ
digits_by zero n = (48 + n) ∷ []
digits_by (suc k) n = elim (ltb n 10) [ true ↦ (48 + n) ∷ [] | false ↦ digits_by k (n / 10) ++ (48 + n % 10) ∷ [] ]

unfoldable pub decimal_of : ℕ → List ℕ
decimal_of n = digits_by n n
