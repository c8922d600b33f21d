use Rattle.std.proofs.Common.{arith}
use Rattle.sample_words.proofs.PieceLaws.{appended}
use Rattle.sample_words.proofs.append.Goals as goal

pub returns : goal.returns
returns c v l e = rw c.copy_from_slice.ensures.after (appended v c.args.row.now c.args.n c.requires.0 (omega arith) l e)
