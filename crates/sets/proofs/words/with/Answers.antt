use Rattle.std.proofs.Common.{◌≡◌, length, rules, arith}
use Rattle.sets.proofs.WordLaws.{put_of}
use Rattle.sets.proofs.words.with.Goals as goal

pub returns : goal.returns
returns g c = let n : length c.args.s ≡ g.row.N = search rules in put_of c.args.s c.args.i (omega (arith, c.requires))
