use Rattle.generator.proofs.Answers.{card_told}
use Rattle.generator.proofs.of_card.Goals as goal

pub returns : goal.returns
returns c = card_told c.args.e _ c.numbers-n.ensures
