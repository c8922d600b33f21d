use mathlib.Core.Path.{ap}
use Rattle.std.proofs.Common.{ℕ, ◌/◌, ◌^◌, eqb}
use lib.Bits.{and_mask}
use Rattle.sets.specs.Bit.{bit}
use Rattle.scans.proofs.is_closed.Goals as goal

pub returns : goal.returns
unfolding bit
returns c = ap (λ (x : ℕ). eqb x 1) (and_mask (c.args.closed / 2 ^ c.args.b) 1)
