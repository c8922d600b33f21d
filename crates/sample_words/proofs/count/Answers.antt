use mathlib.Core.Path.{sym, ap, ◌∙◌}
use Rattle.std.proofs.Common.{◌≡◌, ◌-◌, ℕ, get_or, arith}
use Rattle.grammar.specs.Card.{terminals}
use Rattle.grammar.proofs.CardLaws.{well_formed}
use Rattle.sample_words.specs.Words.{key_of}
use Rattle.sample_words.proofs.SumLaws.{count_plain, count_used, count_nonterminal}
use Rattle.sample_words.proofs.count.Goals as goal

pub key-requires : goal.key-requires
key-requires c = omega (arith, (well_formed _ c.requires.0).limits.nonterminals_to)

pub returns-then-t-x : goal.returns-then-t-x
returns-then-t-x c =
    let a = c.args in
    let j : c.from.result ≡ a.x - terminals a.c.now = omega arith in
    let k = c.key.ensures.0 ∙ ap (key_of a.u) j in
    let v = c.from-then-t-x.ensures ∙ ap (λ (i : ℕ). get_or a.table.now.lengths i 0) k in
    (v ∙ sym (count_nonterminal a.c.now a.table.now.lengths a.u a.x (omega arith)), rw c.from-then-t-x.ensures (c.requires.2.most _))

pub returns-then-u : goal.returns-then-u
returns-then-u c = (rw c.if-u.true (sym (count_used c.args.c.now c.args.table.now.lengths c.args.x (omega arith))), omega arith)

pub returns-else-u : goal.returns-else-u
returns-else-u c = (rw c.if-u.false (sym (count_plain c.args.c.now c.args.table.now.lengths c.args.x (omega arith))), omega arith)
