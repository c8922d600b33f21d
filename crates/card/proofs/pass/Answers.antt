use Rattle.std.proofs.Common.{refl, arith}
use Rattle.grammar.specs.Card.{start_of}
use Rattle.card.proofs.PassLaws.{tells_false}
use Rattle.card.proofs.pass.Goals as goal

pub loop-r-init : goal.loop-r-init
unfolding start_of
loop-r-init c = record { sum = refl; fault = tells_false (λ x. omega (arith, x.to)) }
