-- There is room or not.
use Rattle.std.proofs.Common.{refl, lt-ltb, le-ltb}
use Rattle.decimal.specs.Page.{wrote_byte, wrote}
use Rattle.decimal.proofs.writer.Page.put.Goals as goal

pub returns-then-self : goal.returns-then-self
unfolding wrote wrote_byte
returns-then-self c = record { buffer = refl; page = rw (lt-ltb _ _ c.if-self.true) refl }

pub returns-else-self : goal.returns-else-self
unfolding wrote wrote_byte
returns-else-self c = record { buffer = refl; page = rw (le-ltb _ _ c.if-self.false) refl }
