-- Lists made place by place.
use Rattle.std.specs.Prelude.{ℕ, zero, suc, ◌-◌, List, [], ◌∷◌, ◌++◌, length, drop, replicate}

-- f at 0, at 1, .., at n - 1, one behind the other
abbrev pub each : {A : Type 0} → ℕ → (ℕ → List A) → List A
each zero f = []
each (suc n) f = each n f ++ f n

-- the first number of a list, 0 where it is empty: the next terminal of an input is the end marker 0 after the last
abbrev pub peek : List ℕ → ℕ
peek [] = 0
peek (a ∷ x) = a

-- the list after its first number
abbrev pub rest : List ℕ → List ℕ
rest [] = []
rest (a ∷ x) = x

-- an area whose first n places hold l and zeros behind it; places beyond never change
unfoldable pub covered : ℕ → List ℕ → List ℕ → List ℕ
covered n l area = l ++ (replicate (n - length l) 0 ++ drop n area)
