use Rattle.std.proofs.Common.{refl, arith}
use Rattle.generator.proofs.Walks.{walk_ready, both_walks}
use Rattle.generator.proofs.walk.Goals as goal

pub complete-requires : goal.complete-requires
complete-requires c =
    let r = walk_ready _ _ _ _ _ _ c.requires.2 refl in (r.0, r.1, omega (arith, c.requires.1, c.direct.ensures.long))

pub complete-requires-2 : goal.complete-requires-2
complete-requires-2 c =
    let r = walk_ready _ _ _ _ _ _ c.requires.2 refl in (r.0, r.1, omega (arith, c.requires.1, c.direct.ensures.long, c.complete.ensures.size))

pub returns : goal.returns
returns c = both_walks _ _ _ _ _ _ _ _ _ _ refl c.requires.0.most c.direct.ensures c.complete.ensures c.complete-2.ensures
