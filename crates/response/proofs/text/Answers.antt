-- From areas of zeros the reply is the card's text.
use Rattle.response.proofs.Whole.{reply_text}
use Rattle.response.proofs.text.Goals as goal

pub returns-clause-out_after : goal.returns-clause-out_after
returns-clause-out_after c room = reply_text _ _ _ _ _ c.reply.ensures.replies_as room
