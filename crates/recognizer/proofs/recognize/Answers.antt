-- No terminal is closed.
use Rattle.recognizer.proofs.Across.{none_closed}
use Rattle.recognizer.proofs.recognize.Goals as goal

pub returns : goal.returns
returns c = none_closed _ _ _ _ _ _ _ _ _ _ c.recognize_restricted.ensures
