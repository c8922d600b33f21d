use mathlib.Core.Path.{sym, ap, ◌∙◌}
use Rattle.std.proofs.Common.{◌≡◌, ◌-◌, ℕ, get_or, arith}
use Rattle.grammar.specs.Card.{terminals, symbol_of}
use Rattle.grammar.proofs.CardLaws.{well_formed}
use Rattle.nonterminals.proofs.LengthLaws.{count_terminal, count_nonterminal}
use Rattle.nonterminals.proofs.count.Goals as goal

pub returns-then-x-t : goal.returns-then-x-t
returns-then-x-t c = (sym (count_terminal c.args.c.now c.args.e.now (symbol_of c.args.c.now c.args.k) (omega arith)), omega arith)

pub bounds-e-from : goal.bounds-e-from
bounds-e-from c =
    let w = well_formed _ c.requires.0 in
    omega (arith, w.limits.nonterminals_to, (w.rights c.args.k c.requires.1).1)

pub returns : goal.returns
returns c =
    let x = symbol_of c.args.c.now c.args.k in
    let j : c.from.result ≡ x - terminals c.args.c.now = omega arith in
    let e = c.from-2.ensures ∙ ap (λ (i : ℕ). get_or c.args.e.now i 0) j in
    (e ∙ sym (count_nonterminal c.args.c.now c.args.e.now x (omega arith)), rw e (c.requires.2.most _))
