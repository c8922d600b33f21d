use Rattle.std.proofs.Common.{sym, ◌∙◌, arith}
use lib.Seq.{length-take-le}
use Rattle.sample.proofs.take.Goals as goal

pub copy_from_slice-requires : goal.copy_from_slice-requires
copy_from_slice-requires c = length-take-le 255 c.args.area.now c.requires.1 ∙ sym (c.requires.0 60 (omega arith))
