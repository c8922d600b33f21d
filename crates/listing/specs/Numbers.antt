-- Reading a printed text back: its numbers are its runs of digits, each as long as can be.
use Rattle.std.specs.Prelude.{ℕ, ◌+◌, ◌-◌, ◌*◌, List, [], ◌∷◌, Bool, true, false, cond, get_or, eqb, leb}
use Rattle.std.proofs.Math.Option.{Option, none, some}

-- a byte from 48 to 57
unfoldable pub is_digit : ℕ → Bool
is_digit b = cond (leb 48 b) (leb b 57) false

-- a number v before ns, which are the numbers in bs; bs stands one byte behind v. Where a colon begins bs, v is a row's state and is left out
abbrev pub kept : ℕ → List ℕ → List ℕ → List ℕ
kept v bs ns = cond (eqb (get_or bs 0 0) 58) ns (v ∷ ns)

-- the numbers behind a place outside of digits, or in a run of digits with its value so far
unfoldable pub runs : Option ℕ → List ℕ → List ℕ
runs none [] = []
runs none (b ∷ bs) = elim (is_digit b) [ true ↦ runs (some (b - 48)) bs | false ↦ runs none bs ]
runs (some v) [] = v ∷ []
runs (some v) (b ∷ bs) = elim (is_digit b) [ true ↦ runs (some (v * 10 + (b - 48))) bs | false ↦ kept v bs (runs none bs) ]

abbrev pub numbers_in : List ℕ → List ℕ
numbers_in bs = runs none bs
