use Rattle.std.proofs.Common.{◌%◌, arith}
use Rattle.sets.proofs.BitLaws.{one_shl}
use Rattle.transitions.proofs.WriteLaws.{preceded_of}
use Rattle.transitions.proofs.precede.Goals as goal

pub returns : goal.returns
returns c = preceded_of _ _ _ _ c.requires.0 c.requires.1 c.requires.2 (one_shl 32 (c.args.p % 32) (omega arith))
