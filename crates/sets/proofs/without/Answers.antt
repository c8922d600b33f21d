use Rattle.std.proofs.Common.{rules}
use Rattle.sets.proofs.BitLaws.{one_shl}
use Rattle.sets.proofs.HasLaws.{without_bits}
use Rattle.sets.proofs.without.Goals as goal

pub returns : goal.returns
returns c k = rw (one_shl 64 c.args.m c.requires) (without_bits 64 c.args.s c.args.m (search rules) c.requires k)
