-- The maker's answer and its numbers, and what it leaves in the areas.
use Rattle.std.specs.Prelude.{List, [], ◌∷◌, ℕ}

-- a table; a refusal with its number alone; 10 with the nonterminal; 13 with state, terminal and the two values
pub data Answer : Type 0 where
  made : Answer
  refused : ℕ → Answer
  useless_at : ℕ → Answer
  conflict : ℕ → ℕ → ℕ → ℕ → Answer

-- the paper's number and values of an answer; 0 stands for a table
abbrev pub numbers_of : Answer → List ℕ
numbers_of made = 0 ∷ []
numbers_of (refused n) = n ∷ []
numbers_of (useless_at x) = 10 ∷ x ∷ []
numbers_of (conflict q m v w) = 13 ∷ q ∷ m ∷ v ∷ w ∷ []

-- the answer, and the three areas as the maker leaves them
pub record Generated : Type 0 where
  pub answer : Answer
  pub table : List ℕ
  pub words : List ℕ
  pub halves : List ℕ
