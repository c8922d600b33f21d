use Rattle.std.proofs.Common.{◌∙◌, arith}
use Rattle.transitions.proofs.SymbolLaws.{symbol_is, right_fits}
use Rattle.relations.proofs.PathLaws.{back_start, back_stop, back_more}
use Rattle.relations.proofs.back.Goals as goal

pub loop-i-init : goal.loop-i-init
loop-i-init c = back_start _ _ _ _ _ _ c.empty.ensures c.with-s.ensures

pub returns-then-lowest-eq256 : goal.returns-then-lowest-eq256
returns-then-lowest-eq256 c = back_stop _ _ _ _ c.loop-i.i _ _ (omega arith) (omega arith) c.lowest.ensures c.if-lowest-eq256.true c.loop-i.invariant

pub overflow_add-b : goal.overflow_add-b
overflow_add-b c =
    let o = c.requires.0.1 in
    omega (arith, right_fits c.args.c.now c.args.r o.formed c.requires.2, c.starting-b.ensures ∙ o.starts c.args.r c.requires.2)

pub loop-i-preserved : goal.loop-i-preserved
loop-i-preserved c =
    let s = c.starting-b.ensures ∙ c.requires.0.1.starts c.args.r c.requires.2 in
    back_more _ _ _ _ c.loop-i.i _ _ _ (omega arith) (omega arith) (symbol_is _ _ _ _ _ s (c.from.ensures ∙ c.symbol.ensures)) c.loop-i.invariant c.predecessors-t.ensures
