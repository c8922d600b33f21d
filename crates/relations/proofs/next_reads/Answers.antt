use Rattle.std.proofs.Common.{arith}
use Rattle.relations.proofs.ReadLaws.{reads_found, same_count}
use Rattle.relations.proofs.next_reads.Goals as goal

pub returns-then-nullable : goal.returns-then-nullable
returns-then-nullable c =
    let tells = rw c.nonterminal.ensures at c.nullable.ensures in
    λ k O.
    reads_found _ _ k _ O c.args.cursor _ c.loop-i.invariant _ (rw (same_count _ _ k _ O c.requires.ordered) at c.requires.below) c.requires.sound (omega arith)
    (rw (← c.enters.ensures) (rw (← c.first-end.ensures) c.loop-i-test.true)) (tells.yes c.if-nullable.true)
