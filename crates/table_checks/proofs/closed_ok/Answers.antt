use Rattle.std.proofs.Common.{rules}
use Rattle.table_checks.proofs.ClosedLaws.{whole_word}
use Rattle.table_checks.proofs.closed_ok.Goals as goal

pub returns-else-n-lt64 : goal.returns-else-n-lt64
returns-else-n-lt64 c = λ t e. whole_word c.args.closed c.args.n t e 64 (search rules) (search rules) (search rules)
