use Rattle.std.proofs.Common.{rules, arith, ◌≡◌, ℕ, ◌-◌, ◌^◌, ◌<◌}
use mathlib.Core.Path.{subst}
use lib.Count.{count_leading_zeros, leading_le, leading_length}
use Rattle.scans.proofs.past_closed.Goals as goal

pub overflow_sub-result : goal.overflow_sub-result
overflow_sub-result c = leading_le 64 c.args.closed

pub overflow_cast-result : goal.overflow_cast-result
overflow_cast-result c = omega (arith, leading_le 64 c.args.closed)

pub returns : goal.returns
returns c =
    let w = leading_length 64 c.args.closed (search rules) in
    let e : w.0 ≡ 64 - count_leading_zeros 64 c.args.closed = omega (arith, w.1) in
    subst (λ (n : ℕ). c.args.closed < 2 ^ n) e w.2
