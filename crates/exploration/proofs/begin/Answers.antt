use Rattle.exploration.proofs.Arrives.{reaches_start}
use Rattle.exploration.proofs.begin.Goals as goal

pub returns : goal.returns
returns c = λ t line pa. reaches_start pa line c.args.second.now c.args.step_limit c.requires
