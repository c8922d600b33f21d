use Rattle.nonterminals.proofs.LengthLaws.{first_due, lessened_none}
use Rattle.nonterminals.proofs.shortest.Goals as goal

pub loop-v-init : goal.loop-v-init
loop-v-init c = first_due _

pub returns-then-u-eq0 : goal.returns-then-u-eq0
returns-then-u-eq0 c = lessened_none _ _ _ c.requires c.lessen_all-u.ensures.0 c.if-u-eq0.true
