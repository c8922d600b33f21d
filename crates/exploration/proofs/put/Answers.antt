use Rattle.std.proofs.Common.{arith, rules}
use Rattle.exploration.specs.Phases.{Puts}
use Rattle.exploration.proofs.Sorts.{put_found}
use Rattle.exploration.proofs.Words.{lowest_member}
use Rattle.exploration.proofs.put.Goals as goal

pub returns-then-a-eq4096 : goal.returns-then-a-eq4096
returns-then-a-eq4096 c = let a = c.if-a-eq4096 in rw c.with.ensures (put_found c.args.r c.args.m c.args.a (λ h. omega arith))

pub returns-then-r-eq0 : goal.returns-then-r-eq0
returns-then-r-eq0 c =
    let a = c.if-a-eq4096.false in
    rw c.with-then-r-eq0.ensures (Puts.first (omega arith) (omega arith) c.if-r-eq0.true)

pub returns-then-r-a : goal.returns-then-r-a
returns-then-r-a c =
    let a = c.if-a-eq4096.false in
    rw c.with-then-r-a.ensures (Puts.again (omega arith) (omega arith) c.if-r-a.true)

pub returns-else-r-a : goal.returns-else-r-a
returns-else-r-a c = rw c.with-else-r-a.ensures (Puts.aside _ (lowest_member (omega (arith, c.if-r-eq0.false)) (search rules)))
