-- The numbers of what is wrong with a card's form.
use Rattle.std.specs.Prelude.{ℕ, Result, Ok, Err}
use Rattle.card.specs.declared.Fault.{Fault}
use Rattle.card.specs.declared.Fault.TheVariants.{Short, Sizes, Length, Left, Sum, Symbol}

-- "4: card under 4 numbers. 5: a size outside its limits. 6: card length other than 4 + 2 × P + L. 7: a left side that is no name.
-- 8: lengths that do not add up to L. 9: a right-side symbol that is 0 or at least T+N"; 0 where none applies
abbrev pub fault_number : Result (Unit {0}) Fault → ℕ
fault_number (Ok u) = 0
fault_number (Err Short) = 4
fault_number (Err Sizes) = 5
fault_number (Err Length) = 6
fault_number (Err Left) = 7
fault_number (Err Sum) = 8
fault_number (Err Symbol) = 9
