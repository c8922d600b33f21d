use Rattle.std.proofs.Common.{arith}
use Rattle.machine.proofs.RunTo.{run_to_within}
use Rattle.parser.proofs.Whole.{explorable}
use Rattle.parser.proofs.read.Goals as goal

pub finish-requires : goal.finish-requires
finish-requires c =
    let p = c.requires.passed in
    (p.table, c.requires.word, p.input_passed, omega (arith, p.places, c.requires.second, c.run-r.auto.second), explorable c.run-r.ensures.0.says (run_to_within _ c.args.stack.now c.args.list.now p c.args.step_limit), c.run-r.ensures.1)

pub returns : goal.returns
returns c =
    let f = rw c.run-r.auto.second at c.finish.ensures in
    let r = c.run-r.ensures.0 in
    record { answer = f.0 _ r.says; stack = r.stack; list = r.list; second = f.1 }
