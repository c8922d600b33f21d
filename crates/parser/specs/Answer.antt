-- The number and the values that the paper gives each answer.
use Rattle.std.specs.Prelude.{ℕ, ◌≡◌, List, [], ◌∷◌, ◌++◌, Result, Ok, Err}
use Rattle.machine.specs.Report.{numbers_of, Reading}
use Rattle.table_checks.specs.Verdict.{refusal_number}
use Rattle.table_checks.specs.declared.Refusal.{Refusal}
use Rattle.parser.specs.declared.Counts.{Counts}
use Rattle.parser.specs.declared.Reading as declared
use Rattle.parser.specs.declared.Reading.TheVariants.{Accepted, NoAction, ExpectedUnknown, StepLimit, StackFull, ListFull, Broken}

-- what each end carries: the steps made, the stack places in use, the productions listed
abbrev pub counts_of : Counts → List ℕ
counts_of c = c.steps ∷ c.depth ∷ c.listed ∷ []

-- 31 carries also the position, and the expected set with its size; 46 comes "carrying place and count with offer 0"
abbrev pub reading_numbers : declared.Reading → List ℕ
reading_numbers (Accepted c) = 0 ∷ counts_of c
reading_numbers (NoAction position set size c) = 31 ∷ counts_of c ++ position ∷ set ∷ size ∷ []
reading_numbers (ExpectedUnknown position c) = 46 ∷ counts_of c ++ position ∷ 0 ∷ 0 ∷ []
reading_numbers (StepLimit c) = 32 ∷ counts_of c
reading_numbers (StackFull c) = 33 ∷ counts_of c
reading_numbers (ListFull c) = 34 ∷ counts_of c
reading_numbers (Broken c) = 35 ∷ counts_of c

-- the numbers of an answer: of a reading, or of a refusal
abbrev pub numbers : Result declared.Reading Refusal → List ℕ
numbers (Ok r) = reading_numbers r
numbers (Err e) = refusal_number e ∷ []

-- the answer and the three areas at exit are those of a reading; no two reports have the same numbers (`numbers_tell` of crates/machine)
pub record ReadsAs (g : Reading) (r : Result declared.Reading Refusal) (st li se : List ℕ) : Type 0 where
  pub answer : numbers r ≡ numbers_of g.report
  pub stack : st ≡ g.stack
  pub list : li ≡ g.list
  pub second : se ≡ g.second
