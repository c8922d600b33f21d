use Rattle.std.proofs.Common.{◌≡◌, length, rules, sym, ◌∙◌, arith}
use Rattle.sets.proofs.WordLaws.{union_by}
use Rattle.sets.proofs.words.join.Goals as goal

pub returns : goal.returns
returns g c =
    let a : length c.args.a ≡ g.row.N = search rules in
    let b : length c.args.b ≡ g.row.N = search rules in
    union_by c.args.a c.args.b c.loop-i.t (a ∙ sym b) (c.loop-i.invariant.0 ∙ sym a) (λ k h. c.loop-i.invariant.1 k (omega (arith, c.loop-i.invariant.0)))
