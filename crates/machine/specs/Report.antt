-- What a reading answers and leaves behind.
use Rattle.std.specs.Prelude.{ℕ, List, [], ◌∷◌, take, get_or}

-- a refusal; or an end with the count of steps, the stack places in use and the productions listed. 31 carries also the position, the expected set and its size;
-- 46 the position
pub data Report : Type 0 where
  refused : (number : ℕ) → Report
  ended : (number steps depth listed : ℕ) → Report
  wrong_at_is : (steps depth listed position expected size : ℕ) → Report
  unknown_at_is : (steps depth listed position : ℕ) → Report

-- the paper's number of an answer, and its values in one order for all; 46 comes "carrying place and count with offer 0"
abbrev pub numbers_of : Report → List ℕ
numbers_of (refused n) = n ∷ []
numbers_of (ended n k d i) = n ∷ k ∷ d ∷ i ∷ []
numbers_of (wrong_at_is k d i p s z) = 31 ∷ k ∷ d ∷ i ∷ p ∷ s ∷ z ∷ []
numbers_of (unknown_at_is k d i p) = 46 ∷ k ∷ d ∷ i ∷ p ∷ 0 ∷ 0 ∷ []

-- the report, and the stack area, the list area and the second stack area as the reading leaves them
pub record Reading : Type 0 where
  pub report : Report
  pub stack : List ℕ
  pub list : List ℕ
  pub second : List ℕ

-- the number of the answer
abbrev pub number_of : Reading → ℕ
number_of r = get_or (numbers_of r.report) 0 0

-- the steps made
abbrev pub steps_of : Reading → ℕ
steps_of r = get_or (numbers_of r.report) 1 0

-- the stack places in use
abbrev pub depth_of : Reading → ℕ
depth_of r = get_or (numbers_of r.report) 2 0

-- the productions listed: the used places of the list, from place 0
abbrev pub productions_of : Reading → List ℕ
productions_of r = take (get_or (numbers_of r.report) 3 0) r.list

-- the position that 31 and 46 name
abbrev pub position_of : Reading → ℕ
position_of r = get_or (numbers_of r.report) 4 0

-- the expected set that 31 carries, and its size
abbrev pub expected_of : Reading → ℕ
expected_of r = get_or (numbers_of r.report) 5 0

abbrev pub size_of : Reading → ℕ
size_of r = get_or (numbers_of r.report) 6 0
