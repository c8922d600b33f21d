use Rattle.std.proofs.Common.{◌≡◌, arith}
use Rattle.grammar.specs.Card.{nonterminals}
use Rattle.grammar.proofs.CardLaws.{well_formed}
use Rattle.nonterminals.proofs.UselessLaws.{lowest_le, lowest_useless}
use Rattle.nonterminals.proofs.useless.Goals as goal

pub overflow_add-result : goal.overflow_add-result
overflow_add-result c =
    let w = well_formed _ c.requires in
    omega (arith, lowest_le c.lowest-j.ensures, w.limits.terminals_to)

pub returns-then-j-nonterminals : goal.returns-then-j-nonterminals
returns-then-j-nonterminals c =
    let l = lowest_useless _ c.requires _ _ c.productive.ensures c.reachable.ensures _ c.lowest-j.ensures in
    rw c.terminals.ensures (record { from = l.from; below = omega (arith, c.nonterminals.ensures) }, l)

pub returns-else-j-nonterminals : goal.returns-else-j-nonterminals
returns-else-j-nonterminals c =
    let l = lowest_useless _ c.requires _ _ c.productive.ensures c.reachable.ensures _ c.lowest-j.ensures in
    let e : c.lowest-j.result ≡ nonterminals c.args.c.now = omega (arith, l.to) in
    rw e at l
