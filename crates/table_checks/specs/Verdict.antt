-- The paper's number of each refusal.
use Rattle.std.specs.Prelude.{ℕ, Result, Ok, Err}
use Rattle.table_checks.specs.declared.Refusal.{Refusal}
use Rattle.table_checks.specs.declared.Refusal.TheVariants.{TableShort, SizesWrong, ProductionWrong, CellWrong, EntryWrong, InputLong, TerminalWrong, NoStack, SecondShort, ClosedWrong}

abbrev pub refusal_number : Refusal → ℕ
refusal_number TableShort = 21
refusal_number SizesWrong = 22
refusal_number ProductionWrong = 23
refusal_number CellWrong = 24
refusal_number EntryWrong = 44
refusal_number InputLong = 25
refusal_number TerminalWrong = 26
refusal_number NoStack = 27
refusal_number SecondShort = 45
refusal_number ClosedWrong = 50

-- the number of what the checks answer; 0 where nothing is refused
abbrev pub verdict_number : Result (Unit {0}) Refusal → ℕ
verdict_number (Ok u) = 0
verdict_number (Err e) = refusal_number e
