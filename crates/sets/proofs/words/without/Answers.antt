use Rattle.std.proofs.Common.{◌≡◌, length, rules, arith}
use Rattle.sets.proofs.WordLaws.{without_of}
use Rattle.sets.proofs.words.without.Goals as goal

pub returns : goal.returns
returns g c = let n : length c.args.s ≡ g.row.N = search rules in without_of c.args.s c.args.i (omega (arith, c.requires)) (search rules)
