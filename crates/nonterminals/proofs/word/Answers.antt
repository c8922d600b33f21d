use mathlib.Core.Path.{sym}
use Rattle.std.proofs.Common.{arith}
use Rattle.sets.proofs.BitLaws.{one_shl}
use Rattle.grammar.proofs.CardLaws.{well_formed}
use Rattle.nonterminals.proofs.WordLaws.{word_terminal, word_nonterminal}
use Rattle.nonterminals.proofs.word.Goals as goal

pub overflow_shl-result : goal.overflow_shl-result
overflow_shl-result c =
    let w = well_formed _ c.requires.0 in
    omega (arith, w.limits.nonterminals_to)

pub returns-then-x-first : goal.returns-then-x-first
returns-then-x-first c = sym (word_terminal c.args.c.now c.args.x (omega arith))

pub returns-else-x-first : goal.returns-else-x-first
returns-else-x-first c =
    let w = well_formed _ c.requires.0 in
    rw (word_nonterminal c.args.c.now c.args.x (omega arith), ← c.terminals-first.ensures) (one_shl 64 _ (omega (arith, w.limits.nonterminals_to)))
