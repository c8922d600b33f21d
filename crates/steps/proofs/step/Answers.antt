use Rattle.std.proofs.Common.{◌≡◌, sym, ap, Option, Some, Result, Ok, Err}
use Rattle.std.specs.Result.{MatchResult, IsOkAnd}
use Rattle.machine.proofs.RunLaws.{moved_shift, moved_accept, moved_reduce}
use Rattle.steps.proofs.Kept.{restep}
use Rattle.steps.specs.State.{unaccepted}
use Rattle.steps.specs.declared.State.{State}
use Rattle.steps.specs.declared.Stop.{Stop}
use Rattle.steps.proofs.step.Goals as goal

unaccepted_is : (x : Result State Stop) (y : Result (Option State) Stop) → MatchResult x (λ n. IsOkAnd y (λ r. r ≡ Some n)) (λ e. y ≡ Err e) → y ≡ unaccepted x
unaccepted_is (Ok n) (Ok o) h = ap Ok h
unaccepted_is (Ok n) (Err e) h = absurd h
unaccepted_is (Err e) y h = h

pub returns-then-a-lt1024 : goal.returns-then-a-lt1024
returns-then-a-lt1024 c =
    rw (unaccepted_is _ _ c.map.ensures.cases)
    (restep (sym (moved_shift _ _ _ c.if-a-lt1024.true)) (c.shift.ensures _ _ _ _ c.requires.held (c.requires.shift_in c.if-a-lt1024.true).0))

pub returns-then-a-eq4096 : goal.returns-then-a-eq4096
returns-then-a-eq4096 c = record { next = sym (moved_accept _ _ _ c.if-a-lt1024.false c.if-a-eq4096.true); held = tt }

pub returns-else-a-eq4096 : goal.returns-else-a-eq4096
returns-else-a-eq4096 c =
    rw (unaccepted_is _ _ c.map-else-a-eq4096.ensures.cases) (restep (sym (moved_reduce _ _ _ c.if-a-lt1024.false c.if-a-eq4096.false)) c.reduce_by.ensures)
