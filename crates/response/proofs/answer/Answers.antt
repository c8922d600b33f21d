-- A card's text, or `not a card`.
use Rattle.response.proofs.Printed.{card_answers, other_answers}
use Rattle.response.proofs.answer.Goals as goal

pub returns-in-Ok-Some-clause-by_index : goal.returns-in-Ok-Some-clause-by_index
returns-in-Ok-Some-clause-by_index c bs came room =
    card_answers _ bs _ _ _ c.in-Ok-Some.is came _ (rw c.in-Ok-Some.is at c.in-Ok-Some.field-0-is) (c.text.ensures.out_after room)

pub returns-in-Ok-None-clause-by_index : goal.returns-in-Ok-None-clause-by_index
returns-in-Ok-None-clause-by_index c bs came room =
    other_answers _ bs _ _ _ c.in-Ok-None.is came _ _ _ (rw c.in-Ok-None.is at c.in-Ok-None.field-0-is) c.not_a_card.ensures.result_after room
