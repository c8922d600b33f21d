use mathlib.Core.Path.{◌≡◌, sym, ap, ◌∙◌}
use Rattle.std.proofs.Common.{◌-◌, ℕ, get_or, arith}
use Rattle.grammar.specs.Card.{terminals}
use Rattle.grammar.proofs.CardLaws.{well_formed}
use Rattle.sample_words.specs.Words.{key_of}
use Rattle.sample_words.proofs.SumLaws.{count_nonterminal}
use Rattle.sample_words.proofs.PieceLaws.{one_more, one_long, piece_terminal, piece_nonterminal}
use Rattle.sample_words.proofs.put.Goals as goal

pub key-requires : goal.key-requires
key-requires c = omega (arith, (well_formed _ c.requires.0).limits.nonterminals_to)

pub put_word-requires : goal.put_word-requires
put_word-requires c =
    let a = c.args in
    let e = a.table.now.lengths in
    let j : c.from.result ≡ a.x - terminals a.c.now = omega arith in
    let k = c.key.ensures.0 ∙ ap (key_of a.u) j in
    let n = ap (λ (i : ℕ). get_or e i 0) k ∙ sym (count_nonterminal a.c.now e a.u a.x (omega arith)) in
    (c.key.ensures.1, omega (arith, n), c.requires.3)

pub overflow_cast-b : goal.overflow_cast-b
overflow_cast-b c = record { fits = omega (arith, (well_formed _ c.requires.0).limits.terminals_to) }

pub bounds-b-m : goal.bounds-b-m
bounds-b-m c = omega (arith, one_long c.args.c.now c.args.table.now.lengths c.args.u c.args.x (omega arith) (omega arith))

pub returns-then-t-x : goal.returns-then-t-x
returns-then-t-x c =
    let a = c.args in
    let e = a.table.now.lengths in
    let j : c.from.result ≡ a.x - terminals a.c.now = omega arith in
    let k = c.key.ensures.0 ∙ ap (key_of a.u) j in
    let n = ap (λ (i : ℕ). get_or e i 0) k ∙ sym (count_nonterminal a.c.now e a.u a.x (omega arith)) in
    (omega (arith, n, c.put_word.ensures.0), λ v l h. rw (piece_nonterminal a.c.now e a.table.now.words a.u a.x (omega arith), ← k) (c.put_word.ensures.1 v l h))

pub returns-else-t-x : goal.returns-else-t-x
returns-else-t-x c =
    let a = c.args in
    let e = a.table.now.lengths in
    let one = one_long a.c.now e a.u a.x (omega arith) (omega arith) in
    (omega (arith, one), λ v l h. rw (piece_terminal a.c.now e a.table.now.words a.u a.x (omega arith)) (one_more v a.x (omega (arith, one)) l h))
