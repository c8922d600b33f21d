use Rattle.std.proofs.Common.{arith, ◌∙◌, ◌≡◌}
use Rattle.grammar.proofs.CardLaws.{well_formed}
use Rattle.grammar.specs.Card.{nonterminals}
use Rattle.closures.proofs.LeadLaws.{lead_more, lead_end}
use Rattle.closures.proofs.led.Goals as goal

pub widen-u-requires : goal.widen-u-requires
widen-u-requires c =
    let wf = well_formed c.args.c.now c.requires.0 in
    (omega (arith, wf.limits.nonterminals_to, c.from-n.ensures, c.nonterminals.ensures), c.loop-k-test.true)

pub loop-k-preserved : goal.loop-k-preserved
loop-k-preserved c =
    let wf = well_formed c.args.c.now c.requires.0 in
    let e : c.from-n.result ≡ nonterminals c.args.c.now = c.from-n.ensures ∙ c.nonterminals.ensures in
    lead_more _ _ _ _ wf c.loop-k.invariant (rw e at c.widen-u.ensures) (rw e at c.loop-k-test.true)

pub returns : goal.returns
returns c =
    let wf = well_formed c.args.c.now c.requires.0 in
    let e : c.from-n.result ≡ nonterminals c.args.c.now = c.from-n.ensures ∙ c.nonterminals.ensures in
    lead_end _ _ _ wf c.loop-k.invariant (omega arith)
