use Rattle.std.proofs.Common.{rules}
use Rattle.sets.proofs.HasLaws.{minus_bits}
use Rattle.sets.proofs.minus.Goals as goal

pub returns : goal.returns
returns c m = minus_bits 64 c.args.a c.args.b (search rules) (search rules) m
