use Rattle.std.proofs.Common.{arith}
use Rattle.table_checks.proofs.VerdictLaws.{of_parts}
use Rattle.table_checks.proofs.check_parts.Goals as goal

pub returns-then-not-productions : goal.returns-then-not-productions
returns-then-not-productions c = let e = of_parts c.requires in grind arith

pub returns-then-not-cells : goal.returns-then-not-cells
returns-then-not-cells c = let e = of_parts c.requires in grind arith

pub returns-then-not-entries : goal.returns-then-not-entries
returns-then-not-entries c = let e = of_parts c.requires in grind arith

pub returns : goal.returns
returns c = let e = of_parts c.requires in grind arith
