use Rattle.std.proofs.Common.{rules, ℕ, ◌/◌, ◌^◌, eqb}
use mathlib.Core.Path.{sym, ap}
use lib.Bits.{and_mask}
use Rattle.sets.specs.Bit.{bit}
use Rattle.sets.proofs.BitLaws.{bit_above}
use Rattle.sets.proofs.has.Goals as goal

pub returns-then-m-lt64 : goal.returns-then-m-lt64
unfolding bit
returns-then-m-lt64 c = ap (λ (x : ℕ). eqb x 1) (and_mask (c.args.s / 2 ^ c.args.m) 1)

pub returns-else-m-lt64 : goal.returns-else-m-lt64
returns-else-m-lt64 c = sym (bit_above 64 c.args.s c.args.m (search rules) (search rules))
