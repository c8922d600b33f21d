use Rattle.std.proofs.Common.{sym}
use Rattle.card_checks.specs.Checked.{useless}
use Rattle.card_checks.proofs.Verdicts.{first_fault, none_useless}
use Rattle.card_checks.proofs.check.Goals as goal

pub returns-in_err-form_fault : goal.returns-in_err-form_fault
returns-in_err-form_fault c = first_fault _ c.in_err-form_fault.field-0.0 _ c.in_err-form_fault.ensures c.from_residual.ensures.1

pub returns-in-Some : goal.returns-in-Some
returns-in-Some c = useless (sym c.in_ok-form_fault.ensures) c.in-Some.ensures.0 c.in-Some.ensures.1

pub returns-in-None : goal.returns-in-None
returns-in-None c = none_useless _ (sym c.in_ok-form_fault.ensures) c.in-None.ensures
